use Rattle.test_tables.specs.States.{shown}
use Rattle.test_tables.proofs.Alike.{AreTo, IsNotOf}
use Rattle.test_tables.proofs.dead.kept.is_touched.Given as goal

abbrev pub invariant-loop-point : goal.invariant-loop-point
invariant-loop-point l = AreTo (IsNotOf (shown l.table) l.at) l.touched l.point-index
