use Rattle.std.proofs.Common.{◌≡◌, false, take}
use Rattle.std.specs.List.{list_any}
use Rattle.test_tables.specs.ListedGraphs.{has}
use Rattle.test_tables.proofs.dead.shape.shape_of.Given as goal

abbrev pub invariant-loop-shape : goal.invariant-loop-shape
invariant-loop-shape l = list_any (has l.point) (take l.shape-index l.shapes) ≡ false
