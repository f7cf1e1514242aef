-- The text of a set of changes at a point.
use Rattle.std.specs.Prelude.{◌≡◌, List}
use Rattle.pj_change.specs.declared.point.Point.{Point}
use Rattle.pj_change.specs.declared.graph.Vertex.{Vertex}
use Rattle.pj_change.specs.declared.graph.VertexKind.TheVariants as vertex_kind
use Rattle.pj_change.specs.declared.change.Record.{Record}
use Rattle.pj_change.specs.Vertices.{IsVertex}
use Rattle.pj_change.specs.PointsIn.{LiesIn}

-- a vertex of text that has the point
pub record IsTextAt (S : List Record) (p : Point) (v : Vertex) : Type 0 where
  pub vertex : IsVertex S v
  pub text : v.kind ≡ vertex_kind.Text
  pub lies : LiesIn p v
