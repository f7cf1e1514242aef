-- Where the dead vertices of two graphs differ, and the dead sets that this touches.
use Rattle.std.specs.Prelude.{◌≡◌, ◌↔◌, List, Some, Contains}
use Rattle.pj_change.specs.declared.point.Point.{Point}
use Rattle.pj_dead.specs.declared.row.PseudoRow.{PseudoRow}
use Rattle.pj_dead.specs.PointGraphs.{PointGraph, IsEdge, IsDead}
use Rattle.pj_dead.specs.DeadRows.{AreOfOneSet, Enters, Departs, IsRowOfSet}

-- the vertex has the point
abbrev pub HasPoint : PointGraph → Point → Point → Type 0
HasPoint g p v = g.first p ≡ Some v

-- one of the points is of the vertex
pub record IsTouched (g : PointGraph) (touched : List Point) (v : Point) : Type 0 where
  pub point : Point
  pub member : Contains touched point
  pub first : g.first point ≡ Some v

-- the dead vertex is dead in the other graph too, ends there where it ends here, and keeps what it has here (the other graph may give it more)
pub record IsKeptAt (g h : PointGraph) (v : Point) : Type 0 where
  pub dead : IsDead h v
  pub last : h.last v ≡ g.last v
  -- an edge to a dead vertex, which is dead there too
  pub ahead : (w : Point) → IsEdge g v w → IsDead g w → IsEdge h v w × IsDead h w
  -- an edge from one
  pub back : (u : Point) → IsEdge g u v → IsDead g u → IsEdge h u v × IsDead h u
  -- an edge from a live vertex, by the last point of that
  pub enters : (p : Point) → Enters g v p → Enters h v p
  -- an edge to a live vertex
  pub departs : (q : Point) → Departs g v q → Departs h v q

-- each dead vertex that has none of the points keeps in the other graph what it has
abbrev pub IsKept : PointGraph → PointGraph → List Point → Type 0
IsKept g h touched = (v : Point) → IsDead g v → (IsTouched g touched v → ⊥) → IsKeptAt g h v

-- a row across a dead set that has one of these
pub record IsRowOfSome (g : PointGraph) (chosen : Point → Type 0) (row : PseudoRow) : Type 0 where
  pub one : Point
  pub is : chosen one
  pub of_set : IsRowOfSet g one row

-- the rows across the dead sets that have a touched vertex
abbrev pub AreTouchedRows : PointGraph → List Point → List PseudoRow → Type 0
AreTouchedRows g touched rows = (row : PseudoRow) → Contains rows row ↔ IsRowOfSome g (IsTouched g touched) row

-- no vertex of the dead set that has u is touched
abbrev pub IsAway : PointGraph → List Point → Point → Type 0
IsAway g touched u = (v : Point) → AreOfOneSet g u v → IsTouched g touched v → ⊥
