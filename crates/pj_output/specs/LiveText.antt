-- The live text of a set S, file by file.
use Rattle.std.specs.Prelude.{◌≡◌, ℕ, ◌<◌, ◌≤◌, Bool, List, Contains}
use Rattle.std.specs.Ordering.{on, then_cmp}
use Rattle.std.specs.declared.cmp.Ordering.{Ordering}
use Rattle.pj_change.specs.declared.point.Point.{Point}
use Rattle.pj_change.specs.declared.graph.Vertex.{Vertex}
use Rattle.pj_change.specs.declared.change.Record.{Record}
use Rattle.pj_change.specs.FileText.{IsLiveIn}
use Rattle.pj_change.specs.Graph.{Lists, point_cmp, vertex_cmp}
use Rattle.pj_change.specs.Positions.{same_point}
use Rattle.pj_output.specs.declared.blocks.Block.{Block}
use Rattle.pj_output.specs.declared.live_text.LiveVertex.{LiveVertex}

-- by file, then by first point
abbrev pub live_cmp : LiveVertex → LiveVertex → Ordering
live_cmp = then_cmp (on (λ e. e.inode) point_cmp) (on (λ e. e.vertex) vertex_cmp)

-- the vertex is live text of the file
abbrev pub IsLiveVertex : List Record → LiveVertex → Type 0
IsLiveVertex S e = IsLiveIn S e.inode e.vertex

-- all live text of S, with its files
abbrev pub AreLiveText : List Record → List LiveVertex → Type 0
AreLiveText S entries = Lists live_cmp (IsLiveVertex S) entries

-- the file is the one with this inode
abbrev pub is_of : Point → LiveVertex → Bool
is_of inode e = same_point e.inode inode

-- what one vertex gives: itself, with its file, if it is live text
pub record IsLiveOf (S : List Record) (v : Vertex) (e : LiveVertex) : Type 0 where
  pub vertex : e.vertex ≡ v
  pub live : IsLiveVertex S e

-- ---- block by block

-- it begins in the block, before this position
pub record BeginsIn (b : Block) (upto : ℕ) (e : LiveVertex) : Type 0 where
  pub change : e.vertex.change ≡ b.first.change
  pub low : b.first.offset ≤ e.vertex.start
  pub high : e.vertex.start < upto

-- live text of S, and all that begins in the block before this position
pub record AreLiveIn (S : List Record) (b : Block) (upto : ℕ) (entries : List LiveVertex) : Type 0 where
  pub only : (e : LiveVertex) → Contains entries e → IsLiveVertex S e
  pub all : (e : LiveVertex) → IsLiveVertex S e → BeginsIn b upto e → Contains entries e
