use Rattle.test_tables.proofs.Found.{AreApartTo}
use Rattle.test_tables.proofs.dead.table.are_apart.Given as goal

abbrev pub invariant-loop-one : goal.invariant-loop-one
invariant-loop-one l = AreApartTo l.shapes l.one
