use Rattle.std.proofs.Common.{ℕ, ◌<◌, get_or}
use Rattle.test_tables.specs.declared.dead.shape.Shape.{Shape}
use Rattle.test_tables.specs.ListedGraphs.{IsBefore}
use Rattle.test_tables.proofs.dead.table.is_before_others.Given as goal

abbrev pub invariant-loop-other : goal.invariant-loop-other
invariant-loop-other l = (j : ℕ) (d : Shape) → l.one < j → j < l.other → IsBefore (get_or l.shapes l.one d) (get_or l.shapes j d)
