use Rattle.pj_edges.proofs.TablesOfSets.{row_given, edge_of_table}
use Rattle.pj_edges.proofs.laws.tables_are_of_sets.Goals as goal

pub returns-clause-given : goal.returns-clause-given
returns-clause-given c = row_given

pub returns-clause-edge : goal.returns-clause-edge
returns-clause-edge c = edge_of_table
