use Rattle.test_tables.specs.States.{shown}
use Rattle.test_tables.specs.Neighbours.{ComesAlike}
use Rattle.test_tables.proofs.Alike.{AreTo}
use Rattle.test_tables.proofs.dead.kept.is_led_to_alike.Given as goal

abbrev pub invariant-loop-from : goal.invariant-loop-from
invariant-loop-from l = AreTo (λ u. ComesAlike (shown l.before) (shown l.after) u l.at) l.from-items l.from-index
