-- The blocks of text of a set S, each with its file.
use Rattle.std.specs.Prelude.{◌≡◌, ℕ, ◌+◌, ◌<◌, ◌≤◌, List, Option, Some, None, Contains, length, slice_get}
use Rattle.pj_change.specs.declared.point.Point.{Point}
use Rattle.pj_change.specs.declared.point.Place.{Place}
use Rattle.pj_change.specs.declared.point.Place.TheVariants as placed
use Rattle.pj_change.specs.declared.hunk.Hunk.{Hunk}
use Rattle.pj_change.specs.declared.graph.Vertex.{Vertex}
use Rattle.pj_change.specs.declared.graph.VertexKind.TheVariants as vertex_kind
use Rattle.pj_change.specs.declared.change.Record.{Record}
use Rattle.pj_change.specs.Context.{file_at}
use Rattle.pj_change.specs.Gathers.{IsOfNumber}
use Rattle.pj_change.specs.PointsIn.{LiesIn}
use Rattle.pj_change.specs.Positions.{place, own_point, file_of}
use Rattle.pj_change.specs.Rules.{position_count}
use Rattle.pj_change.specs.Vertices.{IsVertex}
use Rattle.pj_output.specs.declared.blocks.Block.{Block}

-- ---- the blocks of a change

-- the block of a file from this position of the change on, of so many bytes
abbrev pub block_in : Record → ℕ → ℕ → Option Place → Option Block
block_in r first count None = None
block_in r first count (Some placed.Root) = None
block_in r first count (Some (placed.At inode)) = Some (record { inode = inode; first = own_point r first; past = first + count })

-- the numbered hunk of the change makes the block
pub record IsBlockBy (r : Record) (number : ℕ) (b : Block) : Type 0 where
  pub hunk : Hunk
  pub there : slice_get r.change.hunks number ≡ Some hunk
  pub is : block_in r (place r.change.hunks number) (position_count hunk) (file_of r hunk) ≡ Some b

-- a hunk of the change makes the block
abbrev pub IsBlockOf : Record → Block → Type 0
IsBlockOf r b = IsOfNumber (IsBlockBy r) (length r.change.hunks) b

-- ---- the text of a block

-- a change of S has bytes of the file all along the block
pub record IsBlock (S : List Record) (b : Block) : Type 0 where
  pub owner : Record
  pub member : Contains S owner
  pub name : owner.name ≡ b.first.change
  pub of_file : (offset : ℕ) → b.first.offset ≤ offset → offset < b.past → file_at owner offset ≡ Some (placed.At b.inode)

-- text of the file with this inode, whatever its status
pub record IsTextOf (S : List Record) (inode : Point) (v : Vertex) : Type 0 where
  pub vertex : IsVertex S v
  pub text : v.kind ≡ vertex_kind.Text
  pub owner : Record
  pub member : Contains S owner
  pub name : owner.name ≡ v.change
  pub of_file : file_at owner v.start ≡ Some (placed.At inode)

-- the text at a position before the end of the block
pub record IsTextFrom (S : List Record) (b : Block) (offset : ℕ) (v : Vertex) : Type 0 where
  pub is : IsTextOf S b.inode v
  pub before : offset < b.past
  pub lies : LiesIn (record { change = b.first.change; offset = offset }) v
