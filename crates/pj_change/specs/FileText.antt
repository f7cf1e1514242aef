-- The text of a file in a set S: the marked text of the layout of its live vertices.
use Rattle.std.specs.Prelude.{◌≡◌, ◌≢◌, ℕ, ◌-◌, ◌<◌, IsTrue, List, [], ◌∷◌, length, Option, Some, Contains, ◌⊎◌, ◌↔◌, slice_get, slice_range, All, AllPairs, Any}
use Rattle.std.specs.List.{AllZip, range_with_len, slice_index_or}
use Rattle.std.specs.declared.cmp.Ordering.TheVariants.{Less}
use Rattle.std.specs.List.Sorted.{IsStrictlySortedBy}
use Rattle.pj_change.specs.declared.point.Point.{Point}
use Rattle.pj_change.specs.declared.point.Place.TheVariants as placed
use Rattle.pj_change.specs.declared.hunk.Hunk.{Hunk}
use Rattle.pj_change.specs.declared.hunk.Hunk.TheVariants.{Insert}
use Rattle.pj_change.specs.declared.kind.Kind.{Kind}
use Rattle.pj_change.specs.declared.kind.Kind.TheVariants.{Text}
use Rattle.pj_change.specs.declared.graph.Status.TheVariants.{Zombie}
use Rattle.pj_change.specs.declared.graph.Vertex.{Vertex}
use Rattle.pj_change.specs.declared.change.Record.{Record}
use Rattle.pj_change.specs.Positions.{kind_at}
use Rattle.pj_change.specs.Context.{file_at}
use Rattle.pj_change.specs.Vertices.{first_point}
use Rattle.pj_change.specs.Graph.{Lists, point_cmp, vertex_cmp}
use Rattle.pj_change.specs.Before.{IsBefore, IsLiveText}
use Rattle.pj_change.specs.Layout.{Shape, IsLayout}
use Rattle.pj_change.specs.MarkedText.{Class, Piece, marked}

-- live text of the file with this inode
pub record IsLiveIn (S : List Record) (inode : Point) (v : Vertex) : Type 0 where
  pub live : IsLiveText S v
  pub owner : Record
  pub member : Contains S owner
  pub name : owner.name ≡ v.change
  pub of_file : file_at owner v.start ≡ Some (placed.At inode)

-- the live text of the file, by first point
abbrev pub IsLiveList : List Record → Point → List Vertex → Type 0
IsLiveList S inode live = Lists vertex_cmp (IsLiveIn S inode) live

-- ---- classes

-- equal, or each before the other
abbrev pub AreAlike : List Record → Vertex → Vertex → Type 0
AreAlike S u v = (u ≡ v) ⊎ (IsBefore S u v × IsBefore S v u)

-- the least point of the one class is below that of the other
abbrev pub LeastPointBelow : List Vertex → List Vertex → Type 0
LeastPointBelow (u ∷ us) (v ∷ vs) = point_cmp (first_point u) (first_point v) ≡ Less
LeastPointBelow us vs = ⊥

-- all that is live and like one of them, by first point
pub record IsClass (S : List Record) (live : List Vertex) (class : List Vertex) : Type 0 where
  pub nonempty : 0 < length class
  pub sorted : IsStrictlySortedBy vertex_cmp class
  pub among : (v : Vertex) → Contains class v → Contains live v
  pub alike : (u v : Vertex) → Contains class u → Contains live v → Contains class v ↔ AreAlike S u v

-- the classes of what is live, by least point
pub record AreClasses (S : List Record) (live : List Vertex) (classes : List (List Vertex)) : Type 0 where
  pub each : All (IsClass S live) classes
  pub all : (v : Vertex) → Contains live v → Any (λ class. Contains class v) classes
  pub rising : AllPairs LeastPointBelow classes

-- a vertex of class i is before one of class j, another class
pub record IsClassBefore (S : List Record) (classes : List (List Vertex)) (i j : ℕ) : Type 0 where
  pub apart : i ≢ j
  pub u : Vertex
  pub v : Vertex
  pub u_in : Contains (slice_index_or classes i []) u
  pub v_in : Contains (slice_index_or classes j []) v
  pub before : IsBefore S u v

-- ---- what is written

-- the bytes of a range of the block that begins at first
abbrev pub block_part : ℕ → ℕ → ℕ → Option Hunk → List ℕ
block_part first start end (Some (Insert file ups downs bytes)) = slice_range bytes (start - first) (end - first)
block_part first start end h = []

-- the bytes of a vertex that begins where this stands
abbrev pub bytes_by : List Hunk → Vertex → Option Kind → List ℕ
bytes_by hunks v (Some (Text hunk first past)) = block_part first v.start v.end (slice_get hunks hunk)
bytes_by hunks v kind = []

-- the bytes of a vertex of a change with these hunks
abbrev pub bytes_of : List Hunk → Vertex → List ℕ
bytes_of hunks v = bytes_by hunks v (kind_at hunks v.start)

-- a vertex as it is written
pub record IsPiece (S : List Record) (v : Vertex) (piece : Piece) : Type 0 where
  pub zombie : IsTrue piece.zombie ↔ (v.status ≡ Zombie)
  pub owner : Record
  pub member : Contains S owner
  pub name : owner.name ≡ v.change
  pub bytes : piece.bytes ≡ bytes_of owner.change.hunks v

-- a class as it is written; it is cyclic where a vertex of it is before itself, be it by dead text alone
pub record IsWritten (S : List Record) (class : List Vertex) (written : Class) : Type 0 where
  pub cyclic : IsTrue written.cyclic ↔ ((v : Vertex) × Contains class v × IsBefore S v v)
  pub pieces : AllZip (IsPiece S) class written.pieces

-- the text of the file with this inode
pub record IsFileText (S : List Record) (inode : Point) (text : List ℕ) : Type 0 where
  pub live : List Vertex
  pub live_are : IsLiveList S inode live
  pub classes : List (List Vertex)
  pub classes_are : AreClasses S live classes
  pub written : List Class
  pub written_are : AllZip (IsWritten S) classes written
  pub shape : Shape
  pub layout : IsLayout (IsClassBefore S classes) 0 (range_with_len 0 (length classes)) shape
  pub is : text ≡ marked written shape
