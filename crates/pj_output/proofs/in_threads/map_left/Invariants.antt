use Rattle.std.proofs.Common.{take}
use Rattle.std.specs.List.{AllZip}
use Rattle.pj_output.specs.Gives.{Gives, IsGivenIfSome}
use Rattle.pj_output.proofs.in_threads.map_left.Given as goal

-- what is there is what it gives for the first items
abbrev pub invariant-loop-number : goal.invariant-loop-number
invariant-loop-number g l = record {
  places : AllZip (IsGivenIfSome (Gives g.F.Fn l.f)) l.items l.places.items;
  all : AllZip (Gives g.F.Fn l.f) (take l.number l.items) l.all.items;
}
