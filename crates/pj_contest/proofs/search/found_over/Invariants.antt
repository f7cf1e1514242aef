use Rattle.std.proofs.Common.{◌≡◌, take}
use Rattle.pj_contest.proofs.Walks.{AreFound}
use Rattle.pj_contest.proofs.search.found_over.Given as goal

abbrev pub invariant-loop-at : goal.invariant-loop-at
invariant-loop-at l = record {
  same : l.walk ≡ l.fn.ranges;
  found : AreFound l.fn.ranges (take l.at-index l.points) l.found.items l.before;
}
