-- The seats made so far are of what was taken so far.
use Rattle.std.proofs.Common.{◌≡◌, ◌+◌, ◌≤◌, length, vec_capacity}
use Rattle.pj_machine.specs.Call.{own}
use Rattle.pj_repo.specs.Views.{pass_view}
use Rattle.pj_serve.specs.Seats.{Seated}
use Rattle.pj_serve.proofs.seating.seated.Given as goal

abbrev pub invariant-loop-source : goal.invariant-loop-source
invariant-loop-source g l = record {
  seated : Seated pass_view l.fn.opened.items l.seats.items l.opened.items;
  room : length l.seats.items + length l.opened.items ≤ vec_capacity l.seats;
  made : l.repo.made ≡ 1 + length l.seats.items;
  limits : l.repo.limits ≡ l.initial.repo.limits;
  number : l.zero.number ≡ l.initial.zero.number;
  own : own (pass_view l.zero) ≡ own (pass_view l.initial.zero);
}

abbrev pub decreases-loop-source : goal.decreases-loop-source
decreases-loop-source g l = length l.opened.items
