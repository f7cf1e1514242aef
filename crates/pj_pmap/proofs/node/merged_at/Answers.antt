use Rattle.std.proofs.Common.{◌+◌, arith, Some, None}
use Rattle.pj_pmap.proofs.Splices.{flat_two, rises_between, over_one, merged_spliced, spliced_nodes}
use Rattle.pj_pmap.specs.Nodes.{pairs_of}
use Rattle.pj_pmap.proofs.node.merged_at.Goals as goal

pub merged-requires-clause-rising : goal.merged-requires-clause-rising
merged-requires-clause-rising g c =
    let level = rw (← c.deref-list.ensures.value) at c.requires.level in
    rises_between g.K.Ord.cmp _ _ _ _ level.rising
    (flat_two (pairs_of g.N.Node.pairs) c.deref-list.result.now c.args.at c.index-list-at.result c.index-list-at-2.result _ _ (omega arith) c.index-list-at.is c.node-node.ensures c.index-list-at-2.is c.node-next.ensures)

pub returns-clause-same : goal.returns-clause-same
returns-clause-same g c =
    let both = rw c.in-Some.is at c.in_ok-merged.ensures.same in
    rw (← c.deref-list.ensures.value)
    (merged_spliced (pairs_of g.N.Node.pairs) g.N.Node.most c.deref-list.result.now c.args.at c.in_ok-fewer.fewer.items (Some c.in_ok-both.both) (Some c.node-node.result.now) (Some c.node-next.result.now) _ c.in_ok-fewer.ensures.same (over_one g.N.Node.pairs _ _ _ c.in_ok-both.ensures both)
    (flat_two (pairs_of g.N.Node.pairs) c.deref-list.result.now c.args.at c.index-list-at.result c.index-list-at-2.result _ _ (omega arith) c.index-list-at.is c.node-node.ensures c.index-list-at-2.is c.node-next.ensures))

pub returns-clause-nodes : goal.returns-clause-nodes
returns-clause-nodes g c =
    let level = rw (← c.deref-list.ensures.value) at c.requires.level in
    let node = rw c.in-Some.is at c.in_ok-merged.ensures.node in
    spliced_nodes (pairs_of g.N.Node.pairs) g.N.Node.most c.deref-list.result.now c.args.at (c.args.at + 2) c.in_ok-fewer.fewer.items (Some c.in_ok-both.both) None c.in_ok-fewer.ensures.same level.nodes (rw c.in_ok-both.ensures node) tt
