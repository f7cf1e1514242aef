use Rattle.pj_edges.proofs.ListedRows.{inner_row_before}
use Rattle.pj_edges.proofs.laws.inner_rows_lead_to_points.Goals as goal

pub returns : goal.returns
returns c = inner_row_before
