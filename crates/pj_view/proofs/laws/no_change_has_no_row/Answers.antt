use Rattle.pj_view.proofs.NoRows.{no_row}
use Rattle.pj_view.proofs.laws.no_change_has_no_row.Goals as goal

pub returns : goal.returns
returns c = no_row
