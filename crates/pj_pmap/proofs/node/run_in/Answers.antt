use Rattle.std.proofs.Common.{map, ap, refl, arith, Some}
use Rattle.std.proofs.lemmas.List.{length-map, nil_from_length}
use Rattle.pj_pmap.specs.Pairs.{shown_pair}
use Rattle.pj_pmap.proofs.Chosen.{rest_in}
use Rattle.pj_pmap.proofs.Leaves.{empty_is, full_is}
use Rattle.pj_pmap.proofs.Runs.{run_longer, run_next, run_last}
use Rattle.pj_pmap.proofs.node.run_in.Goals as goal
use Rattle.pj_pmap.specs.Nodes.{pairs_of}
use Rattle.pj_pmap.proofs.node.run_in.Goals.{then-not-is_empty-via-then-not-is_empty, then-not-is_empty-via-else-not-is_empty+then-at-nodes}

pub returns-then-not-is_empty : goal.returns-then-not-is_empty
returns-then-not-is_empty g c =
    rw (rest_in (pairs_of g.N.Node.pairs) g.N.Node.most c.args.nodes.now c.choose-at.ensures c.index-nodes-at.is c.node-node.ensures)
    (elim c.then-not-is_empty.branch [
      | then-not-is_empty-via-then-not-is_empty w ↦ run_longer _ _ _ (rw length-map (full_is c.is_empty.ensures w.if-not-is_empty.true refl)) c.run_after-run.ensures
      | then-not-is_empty-via-else-not-is_empty+then-at-nodes w ↦ run_last (pairs_of g.N.Node.pairs) c.args.nodes.now c.choose-at.result _ _ c.run_after-run.ensures (let l = w.if-at-nodes.true in omega arith)
    ])

pub returns : goal.returns
returns g c =
    rw (rest_in (pairs_of g.N.Node.pairs) g.N.Node.most c.args.nodes.now c.choose-at.ensures c.index-nodes-at.is c.node-node.ensures)
    (run_next (pairs_of g.N.Node.pairs) c.args.nodes.now c.choose-at.result _ _
    (ap (map (shown_pair g.V.Share.shown)) (nil_from_length c.run_after-run.result.now (empty_is c.is_empty.ensures c.if-not-is_empty.false refl))) c.run_after-run.ensures
    c.index-nodes-at-2.result (Some c.node-next.result.now) _ (let l = c.choose-at.ensures.in_range in omega arith) c.index-nodes-at-2.is c.node-next.ensures (rw length-map c.first_run.ensures.some) c.first_run.ensures.run)
