use Rattle.pj_edges.proofs.RowOrder.{same_row_equal}
use Rattle.pj_edges.proofs.laws.same_rows_are_equal.Goals as goal

pub returns : goal.returns
returns c = same_row_equal
