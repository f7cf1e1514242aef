use Rattle.pj_view.proofs.NextEnds.{least_target}
use Rattle.pj_view.proofs.ends.least_target.Goals as goal

pub returns-in_err-row-clause-next : goal.returns-in_err-row-clause-next
returns-in_err-row-clause-next c = rw c.from_residual.ensures (λ row there from above. c.in_err-row.ensures.next row there from tt)

pub returns-clause-next : goal.returns-clause-next
returns-clause-next c = least_target c.args.walk.now c.in_ok-row.row c.args.source c.in_ok-row.ensures.next
