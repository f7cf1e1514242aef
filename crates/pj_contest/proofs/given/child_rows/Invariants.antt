use Rattle.std.proofs.Common.{◌≡◌, ◌++◌, drop, take}
use Rattle.std.specs.Prelude.{sum_by}
use Rattle.pj_change.specs.Rules.{position_count}
use Rattle.pj_contest.specs.Given.{child_rows_from, child_rows}
use Rattle.pj_contest.proofs.given.child_rows.Given as goal

abbrev pub invariant-loop-hunk : goal.invariant-loop-hunk
invariant-loop-hunk l = record {
  first : l.first ≡ sum_by position_count (take l.hunk-index l.hunk-items);
  rows : l.rows.items ++ child_rows_from l.record l.first (drop l.hunk-index l.hunk-items) ≡ child_rows l.record;
}
