use Rattle.std.proofs.Common.{take, append-nil, arith}
use Rattle.pj_pmap.proofs.Swaps.{back_with, back_without, back_last}
use Rattle.pj_pmap.proofs.node.put_back.Goals as goal
use Rattle.pj_pmap.proofs.node.put_back.Goals.{then-at-len+in_ok-push-2, else-at-len}

pub returns-in-Some-clause-same : goal.returns-in-Some-clause-same
returns-in-Some-clause-same g c all d l taken =
    rw (c.in-Some.is, c.swap.ensures.items, c.in_ok-push.ensures.items, c.len-last.ensures, c.args.rest.ok.0)
    (back_with all c.args.rest.items c.args.at d l taken c.in-Some.element)

pub returns-clause-same : goal.returns-clause-same
returns-clause-same g c all d l taken =
    let long = c.args.rest.ok.0 in
    let len = c.len.ensures in
    rw (c.in_default.is, append-nil (take c.args.at all))
    (elim c.if-at-len.branch [
      | then-at-len+in_ok-push-2 w ↦
          rw (w.list-is, w.in_ok-push-2.ensures.items, w.remove-last.ensures.items)
          (back_without all c.args.rest.items c.args.at d l taken (let below = w.if-at-len.true in omega (arith, long, len, below)) _ w.remove-last.ensures.value)
      | else-at-len w ↦ rw w.list-is (back_last all c.args.rest.items c.args.at d l taken (let last = w.if-at-len.false in omega (arith, long, len, last)))
    ])
