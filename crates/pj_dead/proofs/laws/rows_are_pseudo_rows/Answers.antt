use Rattle.pj_dead.proofs.SetRows.{rows_are}
use Rattle.pj_dead.proofs.laws.rows_are_pseudo_rows.Goals as goal

pub returns : goal.returns
returns c = rows_are
