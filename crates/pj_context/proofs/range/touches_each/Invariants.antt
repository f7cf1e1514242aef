use Rattle.std.proofs.Common.{◌≤◌, ◌-◌}
use Rattle.pj_context.specs.Ranges.{TouchesEach}
use Rattle.pj_context.proofs.range.touches_each.Given as goal

abbrev pub invariant-loop-at : goal.invariant-loop-at
invariant-loop-at l = record {
  start : l.start ≤ l.at;
  touched : TouchesEach l.by l.owner l.start l.at;
}

abbrev pub decreases-loop-at : goal.decreases-loop-at
decreases-loop-at l = l.end - l.at
