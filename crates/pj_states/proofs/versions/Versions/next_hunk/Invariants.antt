use Rattle.std.proofs.Common.{◌≡◌}
use Rattle.pj_ranges.specs.Over.{left_from}
use Rattle.pj_states.proofs.Nearest.{IsNearest}
use Rattle.pj_states.proofs.versions.Versions.next_hunk.Given as goal

abbrev pub invariant-loop-next : goal.invariant-loop-next
invariant-loop-next l = record {
  same : l.walk ≡ l.initial.walk;
  walked : IsNearest l.self l.initial.walk l.at l.after l.next l.found;
}

abbrev pub decreases-loop-next : goal.decreases-loop-next
decreases-loop-next l = left_from l.initial.walk l.next
