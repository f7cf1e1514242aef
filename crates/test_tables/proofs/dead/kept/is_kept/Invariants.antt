use Rattle.test_tables.specs.States.{shown}
use Rattle.test_tables.proofs.Alike.{AreTo, IsFine}
use Rattle.test_tables.proofs.dead.kept.is_kept.Given as goal

abbrev pub invariant-loop-shape : goal.invariant-loop-shape
invariant-loop-shape l = AreTo (IsFine (shown l.before) (shown l.after) l.touched) l.shape-items l.shape-index
