-- The points at which the dead text of the view of a set and that of the set with one change more can differ, or what stands beside it.
use Rattle.std.specs.Prelude.{◌≡◌, ◌≢◌, ◌+◌, ◌⊎◌, Bool, true, false, List, Contains}
use Rattle.pj_change.specs.declared.point.Point.{Point}
use Rattle.pj_change.specs.declared.point.Place.TheVariants as placed
use Rattle.pj_change.specs.declared.row.EdgeRow.{EdgeRow}
use Rattle.pj_change.specs.declared.graph.Status.{Status}
use Rattle.pj_change.specs.declared.graph.Status.TheVariants.{Alive, Dead, Zombie}
use Rattle.pj_change.specs.declared.graph.Vertex.{Vertex}
use Rattle.pj_change.specs.declared.change.Record.{Record}
use Rattle.pj_change.specs.Before.{Leads}
use Rattle.pj_change.specs.Lawful.{is_held, IsLawful}
use Rattle.pj_change.specs.PointsIn.{LiesIn}
use Rattle.pj_change.specs.Status.{status_of}
use Rattle.pj_change.specs.Vertices.{is_cut, IsVertex, first_point}
use Rattle.pj_cuts.specs.CutsOf.{all_cut_points}
use Rattle.pj_edges.specs.OwnRows.{rows_of}

-- T has the changes of S, and one more
pub record HasOneMore (S T : List Record) (c : Record) : Type 0 where
  pub kept : (r : Record) → Contains S r → Contains T r
  pub new : Contains T c
  pub only : (r : Record) → Contains T r → Contains S r ⊎ (r ≡ c)
  pub fresh : is_held S c.name ≡ false

-- c cuts before the point, and no change of S does
pub record IsNewCut (S : List Record) (c : Record) (p : Point) : Type 0 where
  pub listed : Contains (all_cut_points c) p
  pub new : is_cut S p ≡ false

-- the status is that of what is dead
abbrev pub is_dead : Status → Bool
is_dead Alive = false
is_dead Dead = true
is_dead Zombie = false

-- the point is dead in S
abbrev pub is_dead_in : List Record → Point → Bool
is_dead_in S p = is_dead (status_of S p)

-- the first point of v is dead in one of the two alone, or it is dead in T and c cuts there anew, so that v is named by another point than in S
abbrev pub IsAltered : List Record → List Record → Record → Vertex → Type 0
IsAltered S T c v = (is_dead_in S (first_point v) ≢ is_dead_in T (first_point v)) ⊎ (IsNewCut S c (first_point v) × (is_dead_in T (first_point v) ≡ true))

-- an edge leads from the one vertex to the other, or back
abbrev pub AreBeside : List Record → Vertex → Vertex → Type 0
AreBeside S u v = Leads S u v ⊎ Leads S v u

-- a point at which the dead text of the views of S and of T can differ, or what stands beside it
pub data IsTouchPoint (S T : List Record) (c : Record) : Point → Type 0 where
  -- the first point of such a vertex
  itself : (v : Vertex) → IsVertex T v → IsAltered S T c v → IsTouchPoint S T c (first_point v)
  -- of a vertex beside such a one, where it is dead in T
  beside : (u v : Vertex) → AreBeside T u v → IsAltered S T c u → is_dead_in T (first_point v) ≡ true → IsTouchPoint S T c (first_point v)
  -- the last point of a vertex that ends at a new cut, where it is dead in T
  cut_behind : {p : Point} → IsNewCut S c (record { change = p.change; offset = p.offset + 1 }) → is_dead_in T p ≡ true → IsTouchPoint S T c p
  -- the source of a row of c, where it is dead in T
  source : {p : Point} (row : EdgeRow) → Contains (rows_of c) row → row.source ≡ placed.At p → is_dead_in T p ≡ true → IsTouchPoint S T c p
  -- the target of a row of c, where it is dead in T
  target : (row : EdgeRow) → Contains (rows_of c) row → is_dead_in T row.target ≡ true → IsTouchPoint S T c row.target

-- ---- points that stand for them

-- one of the points lies in the vertex
pub record HasOneIn (points : List Point) (v : Vertex) : Type 0 where
  pub point : Point
  pub member : Contains points point
  pub lies : LiesIn point v

-- in each vertex of T that has the point lies one of these
abbrev pub IsMet : List Record → List Point → Point → Type 0
IsMet T points p = (v : Vertex) → IsVertex T v → LiesIn p v → HasOneIn points v

-- whatever lawful list has the changes of S and c, in each vertex of it that has a touch point lies one of the points
abbrev pub AreTouchedBy : List Record → Record → List Point → Type 0
AreTouchedBy S c points = (T : List Record) → IsLawful T → HasOneMore S T c → (p : Point) → IsTouchPoint S T c p → IsMet T points p
