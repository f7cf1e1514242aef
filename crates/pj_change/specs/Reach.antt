-- How far the ranges that some hunks delete or revive reach: a means to find that ranges which stand in order have no position in common.
use Rattle.std.specs.Prelude.{ℕ, Bool, true, ◌&&◌, ◌||◌, nat_lt, nat_le, nat_eq}
use Rattle.pj_change.specs.declared.hunk.Hunk.{Hunk}
use Rattle.pj_change.specs.declared.hunk.Hunk.TheVariants.{Delete, Revive}

-- what ends before this position of need k ends by the position at of need l
abbrev pub is_up_to : ℕ → ℕ → ℕ → ℕ → Bool
is_up_to k end l at = nat_lt k l || (nat_eq k l && nat_le end at)

-- the range of the hunk, if it has one, ends by this position of need l
abbrev pub ends_by : ℕ → ℕ → Hunk → Bool
ends_by l at (Delete owner start end by) = is_up_to owner end l at
ends_by l at (Revive owner start end by) = is_up_to owner end l at
ends_by l at h = true

-- the range of the hunk, if it has one, begins at or behind this position of need k
abbrev pub begins_at : ℕ → ℕ → Hunk → Bool
begins_at k end (Delete owner start past by) = is_up_to k end owner start
begins_at k end (Revive owner start past by) = is_up_to k end owner start
begins_at k end h = true
