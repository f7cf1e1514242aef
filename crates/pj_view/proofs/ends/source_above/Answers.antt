use Rattle.pj_view.proofs.NextEnds.{no_source, next_source}
use Rattle.pj_view.proofs.ends.source_above.Goals as goal

pub returns-in_err-row-clause-next : goal.returns-in_err-row-clause-next
returns-in_err-row-clause-next c =
    rw c.from_residual.ensures (no_source c.greatest_name-introducer.result c.greatest_name-introducer.ensures c.args.after c.args.target c.args.walk.now c.in_err-row.ensures.next)

pub returns-clause-next : goal.returns-clause-next
returns-clause-next c = next_source c.greatest_name-introducer.result c.greatest_name-introducer.ensures c.args.after c.args.target c.args.walk.now c.in_ok-row.row c.in_ok-row.ensures.next
