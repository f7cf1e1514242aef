use Rattle.std.proofs.Common.{◌≡◌, ◌≤◌, ◌+◌, ◌&&◌, nat_lt, cond}
use Rattle.pj_name.specs.Name.{same_name}
use Rattle.pj_ranges.specs.declared.range.HunkAt.{HunkAt}
use Rattle.pj_rows.specs.Keys.{number_at, AllCounted}
use Rattle.pj_ranges.specs.Units.{hunk_cmp}
use Rattle.pj_contest.proofs.own.without_own.Given as goal

abbrev pub invariant-loop-number : goal.invariant-loop-number
invariant-loop-number g l = record {
  counts : (x : HunkAt) → number_at hunk_cmp x l.now ≡ cond (same_name l.record.name x.change && nat_lt x.hunk l.number) 0 (number_at hunk_cmp x l.fn.counts);
  counted : AllCounted hunk_cmp l.now;
  cost : l.steps ≤ l.fn.steps + l.number;
}
