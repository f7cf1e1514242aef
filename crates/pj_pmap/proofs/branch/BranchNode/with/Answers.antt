use Rattle.std.proofs.Common.{◌∙◌}
use Rattle.pj_pmap.proofs.Counts.{flat_cut, level_first, level_rest, some_nodes, some_with}
use Rattle.pj_pmap.specs.Nodes.{pairs_of}
use Rattle.pj_pmap.proofs.branch.BranchNode.with.Goals as goal

pub split-requires-clause-some : goal.split-requires-clause-some
split-requires-clause-some g c =
    some_nodes (pairs_of g.N.Node.pairs) c.in_ok-nodes.nodes.items (rw c.in_ok-nodes.ensures.same (some_with g.K.Ord.cmp c.args.key (g.V.Share.shown c.args.value) _))

pub over-first-requires-clause-level : goal.over-first-requires-clause-level
over-first-requires-clause-level g c = level_first (pairs_of g.N.Node.pairs) g.N.Node.most c.in_ok-first.first.items _ c.in_ok-nodes.nodes.items c.in_ok-first.ensures.same c.in_ok-nodes.ensures.level

pub over-requires-clause-level : goal.over-requires-clause-level
over-requires-clause-level g c =
    let cut = rw c.in-Some.is at c.in_ok-first.ensures.same in
    level_rest (pairs_of g.N.Node.pairs) g.N.Node.most c.in_ok-first.first.items c.in-Some.second.items c.in_ok-nodes.nodes.items cut c.in_ok-nodes.ensures.level

pub returns-clause-same : goal.returns-clause-same
returns-clause-same g c =
    let cut = rw c.in-Some.is at c.in_ok-first.ensures.same in
    rw (c.over-first.ensures.same, c.over.ensures.same)
    (flat_cut (pairs_of g.N.Node.pairs) c.in_ok-first.first.items c.in-Some.second.items c.in_ok-nodes.nodes.items cut ∙ rw c.self.view_is at c.in_ok-nodes.ensures.same)
