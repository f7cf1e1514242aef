use Rattle.pj_output.specs.Gives.{Gives}
use Rattle.std.proofs.Common.{take}
use Rattle.std.specs.List.{AllZip}
use Rattle.pj_output.proofs.in_threads.map_each.Given as goal

-- what is there is what it gives for the first items
abbrev pub invariant-loop-item : goal.invariant-loop-item
invariant-loop-item g l = AllZip (Gives g.F.Fn l.f) (take l.item-index l.items) l.all.items
