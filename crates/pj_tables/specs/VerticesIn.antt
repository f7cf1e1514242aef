-- The vertices of a set S that one change has, and those at a point.
use Rattle.std.specs.Prelude.{◌≡◌, List}
use Rattle.pj_name.specs.declared.name.Name.{Name}
use Rattle.pj_change.specs.declared.point.Point.{Point}
use Rattle.pj_change.specs.declared.graph.Vertex.{Vertex}
use Rattle.pj_change.specs.declared.change.Record.{Record}
use Rattle.pj_change.specs.PointsIn.{LiesIn}
use Rattle.pj_change.specs.Vertices.{IsVertex}

-- a vertex of positions of the change
pub record IsVertexIn (S : List Record) (change : Name) (v : Vertex) : Type 0 where
  pub vertex : IsVertex S v
  pub named : v.change ≡ change

-- a vertex that has the point
pub record IsVertexOfPoint (S : List Record) (p : Point) (v : Vertex) : Type 0 where
  pub vertex : IsVertex S v
  pub lies : LiesIn p v
