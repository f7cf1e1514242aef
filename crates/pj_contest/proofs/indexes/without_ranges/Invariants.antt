use Rattle.std.proofs.Common.{◌≡◌, ◌≤◌, ◌+◌, ◌&&◌, not, take}
use Rattle.pj_ranges.specs.declared.range.RangeAt.{RangeAt}
use Rattle.pj_ranges.specs.Units.{range_cmp}
use Rattle.pj_ranges.specs.Over.{has_range}
use Rattle.pj_rows.specs.Keys.{is_among}
use Rattle.pj_contest.proofs.indexes.without_ranges.Given as goal

abbrev pub invariant-loop-range : goal.invariant-loop-range
invariant-loop-range g l = record {
  rows : (q : RangeAt) → has_range l.now q ≡ (not (is_among range_cmp q (take l.range-index l.gone)) && has_range l.fn.ranges q);
  cost : l.steps ≤ l.fn.steps + l.range-index;
}
