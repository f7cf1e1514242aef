use Rattle.std.proofs.Common.{◌≡◌, length}
use Rattle.pj_pmap.specs.Pairs.{rest_after}
use Rattle.pj_ranges.specs.Units.{range_cmp}
use Rattle.pj_ranges.proofs.Walked.{IsReached}
use Rattle.pj_ranges.proofs.walk.Walk.next_over.Given as goal

abbrev pub invariant-loop-range : goal.invariant-loop-range
invariant-loop-range l = record {
  same : l.self-inside.rows ≡ l.initial.self-inside.rows;
  reached : IsReached l.initial.self-inside.rows l.at l.fn.after l.bound;
}

abbrev pub decreases-loop-range : goal.decreases-loop-range
decreases-loop-range l = length (rest_after range_cmp l.bound l.initial.self-inside.rows)
