use Rattle.pj_change.proofs.EdgesAndRows.{edge_by_row, inner_row_where_cut}
use Rattle.pj_change.proofs.set_laws.edges_are_rows.Goals as goal

pub returns-clause-edge : goal.returns-clause-edge
returns-clause-edge c = edge_by_row

pub returns-clause-inner : goal.returns-clause-inner
returns-clause-inner c = inner_row_where_cut
