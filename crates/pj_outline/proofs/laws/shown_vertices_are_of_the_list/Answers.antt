use Rattle.pj_outline.proofs.TableVertices.{vertex_of_table}
use Rattle.pj_outline.proofs.laws.shown_vertices_are_of_the_list.Goals as goal

pub returns : goal.returns
returns c = vertex_of_table
