use Rattle.std.proofs.Common.{ℕ, ◌≤◌, ◌<◌}
use Rattle.pj_cuts.specs.Counted.{InNoBlock}
use Rattle.test_tables.proofs.operations.cuts.is_free.Given as goal

abbrev pub invariant-loop-offset : goal.invariant-loop-offset
invariant-loop-offset l = (at : ℕ) → l.first.offset ≤ at → at < l.offset → InNoBlock l.cuts l.first.change at
