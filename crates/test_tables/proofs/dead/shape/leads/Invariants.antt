use Rattle.std.proofs.Common.{◌≡◌, false, take}
use Rattle.std.specs.List.{list_any}
use Rattle.test_tables.specs.ListedGraphs.{joins}
use Rattle.test_tables.proofs.dead.shape.leads.Given as goal

abbrev pub invariant-loop-arrow : goal.invariant-loop-arrow
invariant-loop-arrow l = list_any (joins l.from l.to) (take l.arrow-index l.arrows) ≡ false
