-- The parts from which the text of a file is made: its live vertices by number, what leads from one to the other, and their texts.
use Rattle.std.specs.Prelude.{◌≡◌, ℕ, List, Some, ◌↔◌, length, slice_get}
use Rattle.pj_change.specs.declared.point.Point.{Point}
use Rattle.pj_change.specs.declared.graph.Vertex.{Vertex}
use Rattle.pj_change.specs.declared.change.Record.{Record}
use Rattle.pj_change.specs.Before.{IsBefore}
use Rattle.pj_change.specs.FileText.{IsFileText, IsLiveList, IsPiece}
use Rattle.pj_change.specs.MarkedText.{Piece}
use Rattle.pj_reach.specs.Reach.{Reaches}

-- the edges between the numbers of the live vertices have the paths of before, and each vertex has its piece
pub record AreParts (S : List Record) (inode : Point) (live : List Vertex) (edges : List (ℕ × ℕ)) (piece : ℕ → Piece) : Type 0 where
  pub live_are : IsLiveList S inode live
  pub before : (i j : ℕ) (u v : Vertex) → slice_get live i ≡ Some u → slice_get live j ≡ Some v → Reaches edges i j ↔ IsBefore S u v
  pub pieces : (i : ℕ) (v : Vertex) → slice_get live i ≡ Some v → IsPiece S v (piece i)

-- the text is that of each file of each set which has so many live vertices, and these parts
abbrev pub IsTextOfParts : ℕ → List (ℕ × ℕ) → (ℕ → Piece) → List ℕ → Type 0
IsTextOfParts size edges piece text =
    (S : List Record) (inode : Point) (live : List Vertex) → length live ≡ size → AreParts S inode live edges piece → IsFileText S inode text
