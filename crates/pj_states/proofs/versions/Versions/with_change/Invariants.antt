use Rattle.std.proofs.Common.{◌≡◌, ◌+◌, ◌≤◌, take}
use Rattle.std.specs.Prelude.{sum_by}
use Rattle.pj_pmap.specs.Pairs.{or_else}
use Rattle.pj_ranges.specs.declared.range.HunkAt.{HunkAt}
use Rattle.pj_states.specs.Rows.{said_by}
use Rattle.pj_states.specs.Given.{hunk_steps}
use Rattle.pj_states.proofs.SetChanges.{given_upto}
use Rattle.pj_states.proofs.versions.Versions.with_change.Given as goal

abbrev pub invariant-loop-number : goal.invariant-loop-number
invariant-loop-number g l = record {
  rows : (k : HunkAt) → said_by k l.now ≡ or_else (given_upto l.record l.number k) (said_by k l.fn.self);
  cost : l.steps ≤ l.fn.steps + sum_by hunk_steps (take l.number l.record.change.hunks);
}
