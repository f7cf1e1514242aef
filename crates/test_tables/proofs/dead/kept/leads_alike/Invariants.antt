use Rattle.test_tables.specs.States.{shown}
use Rattle.test_tables.specs.Neighbours.{GoesAlike}
use Rattle.test_tables.proofs.Alike.{AreTo}
use Rattle.test_tables.proofs.dead.kept.leads_alike.Given as goal

abbrev pub invariant-loop-to : goal.invariant-loop-to
invariant-loop-to l = AreTo (GoesAlike (shown l.before) (shown l.after) l.at) l.to-items l.to-index
