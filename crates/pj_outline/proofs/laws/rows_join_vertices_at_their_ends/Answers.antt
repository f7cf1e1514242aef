use Rattle.pj_outline.proofs.VertexRows.{leaves_last, enters_first}
use Rattle.pj_outline.proofs.laws.rows_join_vertices_at_their_ends.Goals as goal

pub returns-clause-leaves : goal.returns-clause-leaves
returns-clause-leaves c = leaves_last

pub returns-clause-enters : goal.returns-clause-enters
returns-clause-enters c = enters_first
