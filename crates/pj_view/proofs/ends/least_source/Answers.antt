use Rattle.pj_view.proofs.NextEnds.{least_source}
use Rattle.pj_view.proofs.ends.least_source.Goals as goal

pub returns-in_err-row-clause-next : goal.returns-in_err-row-clause-next
returns-in_err-row-clause-next c = rw c.from_residual.ensures (λ row there to above. c.in_err-row.ensures.next row there to tt)

pub returns-clause-next : goal.returns-clause-next
returns-clause-next c = least_source c.args.walk.now c.in_ok-row.row c.args.target c.in_ok-row.ensures.next
