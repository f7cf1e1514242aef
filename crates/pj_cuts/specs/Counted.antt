-- A table of cuts: how many stand before each point, and the blocks that they cut.
use Rattle.std.specs.Prelude.{◌≡◌, ℕ, ◌+◌, ◌<◌, ◌≤◌, ◌^◌, Bool, List, nat_lt, Option, Some, None, cond}
use Rattle.std.specs.declared.cmp.Ordering.{Ordering}
use Rattle.std.specs.Ordering.{on}
use Rattle.pj_name.specs.declared.name.Name.{Name}
use Rattle.pj_change.specs.declared.point.Point.{Point}
use Rattle.pj_change.specs.Graph.{point_cmp}
use Rattle.pj_change.specs.Positions.{same_point}
use Rattle.pj_pmap.specs.Pairs.{value_at, IsRising}
use Rattle.pj_rows.specs.declared.values.Count.{Count}
use Rattle.pj_rows.specs.Keys.{number_at, AllCounted}
use Rattle.pj_cuts.specs.declared.keys.CutAt.{CutAt}
use Rattle.pj_cuts.specs.declared.keys.Length.{Length}

-- the counts above 0, and the length of each block, by its first point
pub record Counted : Type 0 where
  pub counts : List (CutAt × Count)
  pub blocks : List (CutAt × Length)

-- ---- what the table says of a point

-- keys in the order of their points
abbrev pub cut_cmp : CutAt → CutAt → Ordering
cut_cmp = on (λ k. k.at) point_cmp

-- the key of a point
abbrev pub key : Point → CutAt
key p = record { at = p }

-- the length, or 0
abbrev pub extent : Option Length → ℕ
extent None = 0
extent (Some n) = n.len

-- how many cuts stand before the point
abbrev pub count_at : Counted → Point → ℕ
count_at c p = number_at cut_cmp (key p) c.counts

-- the length of the block that begins with the point, or 0
abbrev pub length_at : Counted → Point → ℕ
length_at c p = extent (value_at cut_cmp (key p) c.blocks)

-- n at this point, and 0 at the others
abbrev pub only_at : Point → ℕ → Point → ℕ
only_at at n p = cond (same_point at p) n 0

-- ---- blocks

-- the point of a change at this position
abbrev pub at_offset : Name → ℕ → Point
at_offset n o = record { change = n; offset = o }

-- the block from first up to past has the position
pub record InBlock (c : Counted) (n : Name) (at first past : ℕ) : Type 0 where
  pub from : first ≤ at
  pub upto : at < past
  pub block : first + length_at c (at_offset n first) ≡ past

-- no block has the position
abbrev pub InNoBlock : Counted → Name → ℕ → Type 0
InNoBlock c n at = (first past : ℕ) → InBlock c n at first past → ⊥

-- no block has a position from first up to past
abbrev pub IsFree : Counted → Name → ℕ → ℕ → Type 0
IsFree c n first past = (at : ℕ) → first ≤ at → at < past → InNoBlock c n at

-- ---- cuts

-- at least one cut stands before the position
abbrev pub is_counted : Counted → Name → ℕ → Bool
is_counted c n o = nat_lt 0 (count_at c (at_offset n o))

-- ---- what is kept

-- no count and no length is 0, blocks end below 2^32, and those of one change have no position in common
pub record IsCounted (counts : List (CutAt × Count)) (blocks : List (CutAt × Length)) : Type 0 where
  pub counts_kept : AllCounted cut_cmp counts
  pub blocks_rise : IsRising cut_cmp blocks
  pub low : (k : CutAt) (n : Length) → value_at cut_cmp k blocks ≡ Some n → (0 < n.len) × (k.at.offset + n.len < 2 ^ 32)
  pub apart :
      (k l : CutAt) (m n : Length) → value_at cut_cmp k blocks ≡ Some m → value_at cut_cmp l blocks ≡ Some n →
      k.at.change ≡ l.at.change → k.at.offset < l.at.offset → k.at.offset + m.len ≤ l.at.offset
