-- The passes made so far.
use Rattle.std.proofs.Common.{◌≡◌, ◌+◌, ◌≤◌, length, vec_capacity}
use Rattle.pj_machine.specs.Call.{own}
use Rattle.pj_repo.specs.Views.{pass_view}
use Rattle.pj_serve.specs.Workers.{AreTurns}
use Rattle.pj_serve.proofs.staff.turns_for.Given as goal

abbrev pub invariant-loop-turn : goal.invariant-loop-turn
invariant-loop-turn g l = record {
  turns : AreTurns pass_view l.initial.repo.made l.turns.items;
  count : length l.turns.items ≡ l._turn;
  room : l.count ≤ vec_capacity l.turns;
  made : l.repo.made ≡ l.initial.repo.made + l._turn;
  limits : l.repo.limits ≡ l.initial.repo.limits;
  number : l.zero.number ≡ l.initial.zero.number;
  own : own (pass_view l.zero) ≡ own (pass_view l.initial.zero);
}
