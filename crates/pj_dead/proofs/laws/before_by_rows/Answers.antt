use Rattle.pj_dead.proofs.ByRows.{paths_are_by_rows}
use Rattle.pj_dead.proofs.laws.before_by_rows.Goals as goal

pub returns : goal.returns
returns c = paths_are_by_rows
