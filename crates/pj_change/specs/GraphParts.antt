-- What one change of a set S gives to the graph of S.
use Rattle.std.specs.Prelude.{◌≡◌, ℕ, ◌-◌, ◌<◌, IsTrue, List, Some, slice_get}
use Rattle.pj_change.specs.declared.point.Place.TheVariants as placed
use Rattle.pj_change.specs.declared.hunk.Hunk.{Hunk}
use Rattle.pj_change.specs.declared.graph.Vertex.{Vertex}
use Rattle.pj_change.specs.declared.graph.Edge.{Edge}
use Rattle.pj_change.specs.declared.change.Record.{Record}
use Rattle.pj_change.specs.Positions.{kind_at, place, own_point}
use Rattle.pj_change.specs.Vertices.{IsVertexBy, IsRun, is_cut, first_point}
use Rattle.pj_change.specs.Status.{status_of}
use Rattle.pj_change.specs.declared.graph.VertexKind.TheVariants as vertex_kind
use Rattle.pj_change.specs.RealEdges.{IsBlock, IsEdgeOf}

-- a vertex of the change
pub record IsVertexOf (S : List Record) (owner : Record) (v : Vertex) : Type 0 where
  pub name : owner.name ≡ v.change
  pub is : IsVertexBy S owner v (kind_at owner.change.hunks v.start)

-- the vertex that begins at a position of a block of the change, which the block's positions from first up to past are
pub record IsRunAt (S : List Record) (owner : Record) (start first past : ℕ) (v : Vertex) : Type 0 where
  pub name : owner.name ≡ v.change
  pub begins : v.start ≡ start
  pub run : IsRun S v first past
  pub text : v.kind ≡ vertex_kind.Text
  pub of_first : v.status ≡ status_of S (first_point v)

-- an edge to a later vertex of a block of the change, from the point before
pub record IsInner (S : List Record) (r : Record) (first past : ℕ) (e : Edge) : Type 0 where
  pub at : ℕ
  pub after : first < at
  pub before : at < past
  pub cut : IsTrue (is_cut S (own_point r at))
  pub is : IsBlock S r (placed.At (own_point r (at - 1))) at e

-- an edge that the change says
pub record IsSaid (S : List Record) (r : Record) (e : Edge) : Type 0 where
  pub number : ℕ
  pub hunk : Hunk
  pub there : slice_get r.change.hunks number ≡ Some hunk
  pub is : IsEdgeOf S r (place r.change.hunks number) hunk e
