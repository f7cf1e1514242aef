-- What a change gives to a table of cuts, and the table of a set of changes.
use Rattle.std.specs.Prelude.{◌≡◌, ℕ, ◌+◌, ◌<◌, ◌^◌, List, [], ◌∷◌, length, nat_eq, sum_by, count_by, flat_map, cond, Contains}
use Rattle.pj_name.specs.Name.{same_name}
use Rattle.pj_change.specs.declared.point.Point.{Point}
use Rattle.pj_change.specs.declared.point.Place.{Place}
use Rattle.pj_change.specs.declared.point.Place.TheVariants as placed
use Rattle.pj_change.specs.declared.point.Ref.{Ref}
use Rattle.pj_change.specs.declared.hunk.Hunk.{Hunk}
use Rattle.pj_change.specs.declared.hunk.Hunk.TheVariants.{Insert, Order}
use Rattle.pj_change.specs.declared.change.Record.{Record}
use Rattle.pj_change.specs.Rules.{position_count}
use Rattle.pj_change.specs.Positions.{resolve, same_point}
use Rattle.pj_change.specs.CutCounts.{cut_points, cuts_before}
use Rattle.pj_cuts.specs.Counted.{Counted, count_at, length_at}

-- ---- cuts

-- the points before which a change cuts, one for each cut
abbrev pub all_cut_points : Record → List Point
all_cut_points r = flat_map (cut_points r) r.change.hunks

-- how many of these points are this one
abbrev pub count_in : List Point → Point → ℕ
count_in points p = count_by (λ q. same_point q p) points

-- the position after the place is one of 32 bits
abbrev pub HasPositionAfter : Place → Type 0
HasPositionAfter placed.Root = Unit {0}
HasPositionAfter (placed.At q) = q.offset + 1 < 2 ^ 32

-- a position stands after each up, and after a source, as in a change whose context holds
abbrev pub FitsAfter : Record → Hunk → Type 0
FitsAfter r (Insert file ups downs bytes) = (up : Ref) → Contains ups up → HasPositionAfter (resolve r up)
FitsAfter r (Order file source target) = HasPositionAfter (resolve r source)
FitsAfter r h = Unit {0}

-- so it is for each hunk of the change
abbrev pub AllFitAfter : Record → Type 0
AllFitAfter r = (h : Hunk) → Contains r.change.hunks h → FitsAfter r h

-- ---- blocks

-- an insertion has at least one byte, as in each change
abbrev pub HasBytes : Hunk → Type 0
HasBytes (Insert file ups downs bytes) = 0 < length bytes
HasBytes h = Unit {0}

-- the length of the block of a hunk with this first position, if it begins there, or 0
abbrev pub block_here : Hunk → ℕ → ℕ → ℕ
block_here (Insert file ups downs bytes) first at = cond (nat_eq first at) (length bytes) 0
block_here h first at = 0

-- the same by points, for a hunk that begins with the first one
abbrev pub block_at : Point → Hunk → Point → ℕ
block_at first h p = cond (same_name first.change p.change) (block_here h first.offset p.offset) 0

-- the length of the block that begins there, among hunks whose first position is first
unfoldable pub block_from : ℕ → List Hunk → ℕ → ℕ
block_from first [] at = 0
block_from first (h ∷ hs) at = block_here h first at + block_from (first + position_count h) hs at

-- the length of the block of a change that begins at a position of it, or 0
abbrev pub block_length : Record → ℕ → ℕ
block_length r at = block_from 0 r.change.hunks at

-- the same by points
abbrev pub block_by : Record → Point → ℕ
block_by r p = cond (same_name r.name p.change) (block_length r p.offset) 0

-- ---- tables

-- the table of the set S
pub record AreCutsOf (S : List Record) (c : Counted) : Type 0 where
  pub counts : (p : Point) → count_at c p ≡ cuts_before S p
  pub blocks : (p : Point) → length_at c p ≡ sum_by (λ r. block_by r p) S
