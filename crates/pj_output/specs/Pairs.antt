-- Live text by number, and the pairs of numbers that edges and pseudo rows join.
use Rattle.std.specs.Prelude.{◌≡◌, ℕ, List, Some, slice_get}
use Rattle.pj_change.specs.declared.point.Point.{Point}
use Rattle.pj_change.specs.declared.graph.Vertex.{Vertex}
use Rattle.pj_change.specs.declared.change.Record.{Record}
use Rattle.pj_change.specs.Vertices.{first_point}
use Rattle.pj_rows.specs.declared.values.Here.{Here}
use Rattle.pj_dead.specs.declared.row.PseudoRow.{PseudoRow}
use Rattle.pj_output.specs.Targets.{LeadsTo}

-- the vertex with this number begins at the point
pub record BeginsAt (live : List Vertex) (first : Point) (number : ℕ) : Type 0 where
  pub v : Vertex
  pub there : slice_get live number ≡ Some v
  pub first_is : first_point v ≡ first

-- the pair leads from the number to that of the vertex which begins at the point
pub record IsPairTo (live : List Vertex) (from : ℕ) (first : Point) (pair : ℕ × ℕ) : Type 0 where
  pub to : ℕ
  pub begins : BeginsAt live first to
  pub is : pair ≡ (from, to)

-- a point of which P holds gives the pair
pub record IsPairOf (P : Point → Type 0) (live : List Vertex) (from : ℕ) (pair : ℕ × ℕ) : Type 0 where
  pub target : Point
  pub holds : P target
  pub is : IsPairTo live from target pair

-- the vertex with this number gives the pair
pub record IsPairFrom (S : List Record) (rows : List (PseudoRow × Here)) (live : List Vertex) (from : ℕ) (pair : ℕ × ℕ) : Type 0 where
  pub u : Vertex
  pub there : slice_get live from ≡ Some u
  pub leads : IsPairOf (LeadsTo S rows u) live from pair
