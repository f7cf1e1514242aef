use Rattle.test_tables.specs.States.{AreOwnRows}
use Rattle.test_tables.proofs.dead.replies.Given as goal

-- the rows are those of the view
abbrev pub invariant-loop : goal.invariant-loop
invariant-loop l = AreOwnRows l.after.0
