-- Lists of points to which some were added, and the parts of a change near which its touched points lie.
use Rattle.std.specs.Prelude.{◌≡◌, ◌≢◌, ◌+◌, ◌≤◌, ◌⊎◌, Bool, true, false, IsTrue, List, Contains, Some, slice_get}
use Rattle.pj_name.specs.declared.name.Name.{Name}
use Rattle.pj_change.specs.declared.point.Point.{Point}
use Rattle.pj_change.specs.declared.point.Place.TheVariants as placed
use Rattle.pj_change.specs.declared.hunk.Hunk.{Hunk}
use Rattle.pj_change.specs.declared.row.EdgeRow.{EdgeRow}
use Rattle.pj_change.specs.declared.graph.Vertex.{Vertex}
use Rattle.pj_change.specs.declared.change.Record.{Record}
use Rattle.pj_change.specs.Before.{Leads}
use Rattle.pj_change.specs.ContestCounts.{is_contested_by}
use Rattle.pj_change.specs.Contested.{is_hunk_contested}
use Rattle.pj_change.specs.Covers.{covers, touches}
use Rattle.pj_change.specs.PointsIn.{LiesIn}
use Rattle.pj_change.specs.Vertices.{is_cut, IsVertex, first_point}
use Rattle.pj_ranges.specs.declared.range.HunkAt.{HunkAt}
use Rattle.pj_view.specs.SetGraph.{graph_of}
use Rattle.pj_view.specs.Touched.{IsNewCut, is_dead_in}

-- the later list has the points of the earlier one, and each of these has its place in it
pub record HasAddedAs (HasPlace : List Point → Point → Type 0) (before later : List Point) (P : Point → Type 0) : Type 0 where
  pub kept : (p : Point) → Contains before p → Contains later p
  pub added : (p : Point) → P p → HasPlace later p

-- the later list has the points of the earlier one, and each of these
abbrev pub HasAdded : List Point → List Point → (Point → Type 0) → Type 0
HasAdded = HasAddedAs (λ points p. Contains points p)

-- one of the points is p, or lies before it in one vertex of S
pub data HasEntry (S : List Record) (points : List Point) (p : Point) : Type 0 where
  itself : Contains points p → HasEntry S points p
  ahead : (v : Vertex) → IsVertex S v → LiesIn p v → (q : Point) → Contains points q → LiesIn q v → q.offset ≤ p.offset → HasEntry S points p

-- the later list has the points of the earlier one, and an entry to each of these
abbrev pub HasEntries : List Record → List Point → List Point → (Point → Type 0) → Type 0
HasEntries S = HasAddedAs (HasEntry S)

-- it stands so to one of these things
pub record StandsToOne {X : Type 0} (things : List X) (P : X → Point → Type 0) (p : Point) : Type 0 where
  pub thing : X
  pub member : Contains things thing
  pub stands : P thing p

-- ---- near a change

-- at the point, where no change of S cuts before it
abbrev pub IsUncutAt : List Record → Point → Point → Type 0
IsUncutAt S at p = (at ≡ p) × (is_cut S at ≡ false)

-- just before the point
abbrev pub IsBefore : Point → Point → Type 0
IsBefore at p = record { change = p.change; offset = p.offset + 1 } ≡ at

-- at an end of the row
pub data IsEnd (row : EdgeRow) : Point → Type 0 where
  source : {p : Point} → row.source ≡ placed.At p → IsEnd row p
  target : IsEnd row row.target

-- at the point, and dead in S
abbrev pub IsDeadAt : List Record → Point → Point → Type 0
IsDeadAt S at p = (at ≡ p) × (is_dead_in S at ≡ true)

-- at an end of the row, which is no point of the change of this name
abbrev pub IsOldEnd : Name → EdgeRow → Point → Type 0
IsOldEnd name row p = IsEnd row p × (p.change ≢ name)

-- the hunk of r deletes or revives the point
abbrev pub IsCovered : Record → Hunk → Point → Type 0
IsCovered r h p = covers r h p ≡ true

-- and so does the hunk at this place, of a change of S, which nobody contests in S
pub record IsCoveredAt (S : List Record) (x : HunkAt) (p : Point) : Type 0 where
  pub owner : Record
  pub member : Contains S owner
  pub name : owner.name ≡ x.change
  pub hunk : Hunk
  pub there : slice_get owner.change.hunks x.hunk ≡ Some hunk
  pub covered : IsCovered owner hunk p
  pub free : is_hunk_contested S owner hunk ≡ false

-- c deletes or revives the point, or contests a hunk of S that deletes it and that nobody in S contests
pub data MayTurn (S : List Record) (c : Record) (p : Point) : Type 0 where
  covered : touches c p ≡ true → MayTurn S c p
  contested : (d : Record) → Contains S d → (h : Hunk) → Contains d.change.hunks h → IsCovered d h p → is_contested_by S d h c ≡ true → is_hunk_contested S d h ≡ false → MayTurn S c p

-- the list has each new cut of c that is dead in S, and an entry to each point whose status c may change
pub record HasStarts (S : List Record) (c : Record) (points : List Point) : Type 0 where
  pub cuts : (p : Point) → IsNewCut S c p → is_dead_in S p ≡ true → Contains points p
  pub turns : (p : Point) → MayTurn S c p → HasEntry S points p

-- a vertex of S begins there, to which an edge leads from the vertex that has this point, or from which one leads to the vertex that begins with it
pub data IsBesideAt (S : List Record) (at : Point) : Point → Type 0 where
  leads_on : (from to : Vertex) → Leads S from to → LiesIn at from → IsBesideAt S at (first_point to)
  leads_here : (from to : Vertex) → Leads S from to → first_point to ≡ at → IsBesideAt S at (first_point from)

-- an edge of the graph of S leads there from the vertex or, if that is wanted, from there to it
abbrev pub IsNeighbour : List Record → Point → Bool → Point → Type 0
IsNeighbour S v ins_too p = Contains ((graph_of S).outs v) p ⊎ (IsTrue ins_too × Contains ((graph_of S).ins v) p)
