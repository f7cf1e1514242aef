use Rattle.std.proofs.Common.{length, take}
use Rattle.std.specs.List.{AllZip}
use Rattle.pj_output.specs.Gives.{Gives, AreGivenFor, IsGivenIfSome}
use Rattle.pj_output.proofs.in_threads.placed.Given as goal

-- nothing stands in the places so far
abbrev pub invariant-loop : goal.invariant-loop
invariant-loop g l = AllZip (IsGivenIfSome (Gives g.F.Fn l.f)) (take l.index l.items) l.places.items

-- what is left is of the items too
abbrev pub invariant-loop-number : goal.invariant-loop-number
invariant-loop-number g l = record {
  placed : AllZip (IsGivenIfSome (Gives g.F.Fn l.f)) l.items l.places.items;
  left : AreGivenFor (Gives g.F.Fn l.f) l.items l.left.items;
}

abbrev pub decreases-loop-number : goal.decreases-loop-number
decreases-loop-number g l = length l.left.items
