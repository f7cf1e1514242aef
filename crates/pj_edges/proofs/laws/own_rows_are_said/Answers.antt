use Rattle.pj_edges.proofs.ListedRows.{own_row_listed}
use Rattle.pj_edges.proofs.laws.own_rows_are_said.Goals as goal

pub returns : goal.returns
returns c = own_row_listed
