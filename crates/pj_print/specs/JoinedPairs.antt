-- The live text of a file by number, and the pairs of numbers that a relation joins.
use Rattle.std.specs.Prelude.{◌≡◌, ℕ, List, Some, Contains, ◌↔◌, slice_get}
use Rattle.pj_change.specs.declared.point.Point.{Point}
use Rattle.pj_change.specs.declared.graph.Vertex.{Vertex}
use Rattle.pj_change.specs.declared.change.Record.{Record}
use Rattle.pj_change.specs.AcrossDead.{IsPath, IsAmong}
use Rattle.pj_change.specs.Before.{IsBefore}
use Rattle.pj_change.specs.FileText.{IsFileText, IsLiveIn, IsLiveList, IsPiece}
use Rattle.pj_change.specs.MarkedText.{Piece}

-- the relation joins the vertex with the number i to that with the number j
pub record AreJoinedAt (Joins : Vertex → Vertex → Type 0) (vertices : List Vertex) (i j : ℕ) : Type 0 where
  pub u : Vertex
  pub v : Vertex
  pub u_at : slice_get vertices i ≡ Some u
  pub v_at : slice_get vertices j ≡ Some v
  pub joined : Joins u v

-- the pairs of numbers are those that the relation joins
abbrev pub ArePairsOf : (Vertex → Vertex → Type 0) → List Vertex → List (ℕ × ℕ) → Type 0
ArePairsOf Joins vertices pairs = (i j : ℕ) → Contains pairs (i, j) ↔ AreJoinedAt Joins vertices i j

-- over the live text of the file the paths of the relation are before
abbrev pub TellsBefore : (Vertex → Vertex → Type 0) → List Record → Point → Type 0
TellsBefore Joins S inode = (u v : Vertex) → IsLiveIn S inode u → IsLiveIn S inode v → IsBefore S u v ↔ IsPath (IsAmong (IsLiveIn S inode) Joins) u v

-- each vertex has its piece
abbrev pub ArePieces : List Record → List Vertex → (ℕ → Piece) → Type 0
ArePieces S vertices piece = (i : ℕ) (v : Vertex) → slice_get vertices i ≡ Some v → IsPiece S v (piece i)

-- the text is that of each file of each set which has this live text and these pieces, and in which the relation tells what is before
abbrev pub IsTextOfJoined : (Vertex → Vertex → Type 0) → List Vertex → (ℕ → Piece) → List ℕ → Type 0
IsTextOfJoined Joins live piece text =
    (S : List Record) (inode : Point) → IsLiveList S inode live → TellsBefore Joins S inode → ArePieces S live piece → IsFileText S inode text
