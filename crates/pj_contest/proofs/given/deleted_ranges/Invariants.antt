use Rattle.std.proofs.Common.{◌≡◌, ◌++◌, drop}
use Rattle.pj_contest.specs.Given.{ranges_from, deleted_ranges}
use Rattle.pj_contest.proofs.given.deleted_ranges.Given as goal

abbrev pub invariant-loop-number : goal.invariant-loop-number
invariant-loop-number l = l.ranges.items ++ ranges_from l.record l.number (drop l.number l.record.change.hunks) ≡ deleted_ranges l.record
