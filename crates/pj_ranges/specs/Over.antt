-- The ranges of a set that have a point, in order.
use Rattle.std.specs.Prelude.{◌≡◌, ℕ, ◌+◌, Bool, false, IsTrue, List, length, Option, Some, None}
use Rattle.std.specs.Ordering.{is_lt}
use Rattle.std.specs.declared.cmp.Ordering.TheVariants.{Less}
use Rattle.pj_change.specs.declared.point.Point.{Point}
use Rattle.pj_change.specs.Covers.{is_within}
use Rattle.pj_pmap.specs.Pairs.{IsRising, rest_after}
use Rattle.pj_rows.specs.declared.values.Here.{Here}
use Rattle.pj_rows.specs.Keys.{has}
use Rattle.pj_ranges.specs.declared.range.RangeAt.{RangeAt}
use Rattle.pj_ranges.specs.Units.{range_cmp, IsMeasured}

-- the range is in the set
abbrev pub has_range : List (RangeAt × Here) → RangeAt → Bool
has_range es r = has range_cmp r es

-- the range has the point
abbrev pub has_point : RangeAt → Point → Bool
has_point r p = is_within r.owner r.start r.end p

-- the ranges rise, and each is kept under its power
pub record AreKept (es : List (RangeAt × Here)) : Type 0 where
  pub rising : IsRising range_cmp es
  pub measured : (r : RangeAt) → IsTrue (has_range es r) → IsMeasured r

-- the range is above this one, if there is one
abbrev pub IsAbove : Option RangeAt → RangeAt → Type 0
IsAbove None r = Unit {0}
IsAbove (Some after) r = range_cmp after r ≡ Less

-- a range of the set above this one that has the point
pub record IsOver (es : List (RangeAt × Here)) (p : Point) (after : Option RangeAt) (r : RangeAt) : Type 0 where
  pub there : IsTrue (has_range es r)
  pub over : IsTrue (has_point r p)
  pub above : IsAbove after r

-- the least of them
pub record IsNextOver (es : List (RangeAt × Here)) (p : Point) (after : Option RangeAt) (r : RangeAt) : Type 0 where
  pub one : IsOver es p after r
  pub first : (q : RangeAt) → IsOver es p after q → is_lt (range_cmp q r) ≡ false

-- how many ranges a walk has before it, this one too
abbrev pub left_from : List (RangeAt × Here) → Option RangeAt → ℕ
left_from es None = 0
left_from es (Some r) = 1 + length (rest_after range_cmp r es)
