use Rattle.std.proofs.Common.{arith, None, ap, ◌∙◌}
use Rattle.std.specs.List.{flat_map}
use Rattle.pj_pmap.specs.Nodes.{AllNodes, pairs_of}
use Rattle.pj_pmap.proofs.Counts.{some_level, some_nodes}
use Rattle.pj_pmap.proofs.Levels.{flat_spliced, nodes_spliced}
use Rattle.pj_pmap.proofs.Splices.{level_from}
use Rattle.pj_pmap.proofs.branch.BranchNode.merged.Goals as goal

pub merged_at-requires-clause-level : goal.merged_at-requires-clause-level
merged_at-requires-clause-level g c =
    let same = rw (c.deref.ensures.value, c.deref-2.ensures.value) at c.in_ok-both.ensures.same in
    let rises = rw (← c.self.view_is, ← c.next.view_is) at c.requires.rising in
    level_from _ _ rises
    (ap (flat_map (pairs_of g.N.Node.pairs)) same ∙ flat_spliced (pairs_of g.N.Node.pairs) c.self.inside.nodes.items c.next.inside.nodes.items None None)
    (rw same (nodes_spliced (pairs_of g.N.Node.pairs) g.N.Node.most c.self.inside.nodes.items c.next.inside.nodes.items None None c.self.invariant.0.nodes tt tt c.next.invariant.0.nodes))

pub over-requires-clause-node : goal.over-requires-clause-node
over-requires-clause-node g c =
    let same = rw (c.deref.ensures.value, c.deref-2.ensures.value) at c.in_ok-both.ensures.same in
    let all : AllNodes (pairs_of g.N.Node.pairs) g.N.Node.most c.in_ok-both.both.items = rw same (nodes_spliced (pairs_of g.N.Node.pairs) g.N.Node.most c.self.inside.nodes.items c.next.inside.nodes.items None None c.self.invariant.0.nodes tt tt c.next.invariant.0.nodes) in
    let len = rw (c.deref.ensures.value, c.deref-2.ensures.value) at c.in_ok-both.ensures.len in
    let some = c.self.invariant.1.some in
    let here = c.self.inside.nodes.ok in
    let there = c.next.inside.nodes.ok in
    let few = c.in_ok-nodes.ensures.few in
    let pair = some_level (pairs_of g.N.Node.pairs) g.N.Node.most c.in_ok-both.both.items all (omega (arith, len, some)) in
    record {
      some = some_nodes (pairs_of g.N.Node.pairs) c.in_ok-nodes.nodes.items (rw c.in_ok-nodes.ensures.same pair);
      few = omega (arith, len, here, there, few);
    }
