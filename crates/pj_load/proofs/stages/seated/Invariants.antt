-- Each turn takes a script from the front and makes its seat.
use Rattle.std.proofs.Common.{◌≡◌, ◌+◌, ◌≤◌, length, vec_capacity}
use mathlib.Core.List.{IsPrefix}
use Rattle.pj_machine.specs.Call.{own}
use Rattle.pj_repo.specs.Views.{pass_view}
use Rattle.pj_load.proofs.SeatRows.{SeatedSoFar}
use Rattle.pj_load.proofs.stages.seated.Given as goal

abbrev pub invariant-loop-script : goal.invariant-loop-script
invariant-loop-script g l = record {
  seated : SeatedSoFar pass_view (pass_view l.initial.first).journal l.fn.scripts.items l.seats.items l.scripts.items;
  room : length l.seats.items + length l.scripts.items ≤ vec_capacity l.seats;
  made : l.repo.made ≡ 2 + length l.seats.items;
  limits : l.repo.limits ≡ l.initial.repo.limits;
  number : l.first.number ≡ l.initial.first.number;
  own : own (pass_view l.first) ≡ own (pass_view l.initial.first);
  sees : IsPrefix (pass_view l.initial.first).journal (pass_view l.first).journal;
}

abbrev pub decreases-loop-script : goal.decreases-loop-script
decreases-loop-script g l = length l.scripts.items
