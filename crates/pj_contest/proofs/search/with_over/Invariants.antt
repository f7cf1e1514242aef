use Rattle.std.proofs.Common.{◌≡◌}
use Rattle.pj_contest.proofs.Walks.{IsWalked}
use Rattle.pj_ranges.specs.Over.{left_from}
use Rattle.pj_contest.proofs.search.with_over.Given as goal

abbrev pub invariant-loop-next : goal.invariant-loop-next
invariant-loop-next l = record {
  same : l.walk ≡ l.fn.walk;
  walked : IsWalked l.fn.walk l.at l.from l.fn.found.items l.found.items l.next;
}

abbrev pub decreases-loop-next : goal.decreases-loop-next
decreases-loop-next l = left_from l.fn.walk l.next
