use Rattle.pj_outline.proofs.TableVertices.{table_of_vertex}
use Rattle.pj_outline.proofs.laws.vertices_of_text_are_shown.Goals as goal

pub returns : goal.returns
returns c = table_of_vertex
