use Rattle.pj_output.specs.Gives.{Gives, AreGivenFor}
use Rattle.pj_output.proofs.in_threads.take_turns.Given as goal

-- each is of the item with its number
abbrev pub invariant-loop : goal.invariant-loop
invariant-loop g l = AreGivenFor (Gives g.F.Fn l.f) l.items l.given.items
