use Rattle.std.proofs.Common.{◌≡◌, false}
use Rattle.pj_ranges.specs.declared.range.HunkAt.{HunkAt}
use Rattle.pj_ranges.specs.Over.{left_from}
use Rattle.pj_states.specs.Rows.{said_by, said_has_by}
use Rattle.pj_states.proofs.Walked.{IsWalked}
use Rattle.pj_states.proofs.versions.Versions.survives.Given as goal

abbrev pub invariant-loop-next : goal.invariant-loop-next
invariant-loop-next l = record {
  same : l.walk ≡ l.initial.walk;
  walked : IsWalked l.initial.walk l.at (λ (k : HunkAt). said_has_by (said_by k l.self) l.name) l.next false;
}

abbrev pub decreases-loop-next : goal.decreases-loop-next
decreases-loop-next l = left_from l.initial.walk l.next
