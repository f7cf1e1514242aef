use Rattle.pj_change.proofs.VertexOfPoint.{vertex_of, one_vertex_at, point_of_vertex}
use Rattle.pj_change.proofs.set_laws.each_point_in_one_vertex.Goals as goal

pub returns-clause-one : goal.returns-clause-one
returns-clause-one c = λ S unique p h. (let v = vertex_of S p h in (v.it, v.is, v.lies, λ w is lies. one_vertex_at S unique p w v.it is v.is lies v.lies))

pub returns-clause-only : goal.returns-clause-only
returns-clause-only c = point_of_vertex
