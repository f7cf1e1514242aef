use Rattle.std.proofs.Common.{◌≡◌, ◌+◌, ◌≤◌, length, take, true}
use Rattle.std.specs.Prelude.{sum_by}
use Rattle.pj_change.specs.Text.{hunk_text}
use Rattle.pj_change.specs.Rules.{position_count, are_hunks}
use Rattle.pj_change.proofs.length.hunks_fit.Given as goal

abbrev pub invariant-loop-hunk : goal.invariant-loop-hunk
invariant-loop-hunk l = record {
  first : l.first ≡ sum_by position_count (take l.hunk-index l.hunks);
  so_far : l.length ≡ l.others + sum_by (λ h. length (hunk_text h)) (take l.hunk-index l.hunks);
  rules : are_hunks l.needs 0 (take l.hunk-index l.hunks) ≡ true;
  behind : l.first ≤ l.length;
}
