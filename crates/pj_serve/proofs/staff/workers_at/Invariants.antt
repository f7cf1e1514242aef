-- The workers so far, and the doors that are left.
use Rattle.std.proofs.Common.{◌≡◌, ◌+◌, ◌≤◌, ◌++◌, length, map, vec_capacity}
use Rattle.pj_machine.specs.Call.{own}
use Rattle.pj_repo.specs.Views.{pass_view}
use Rattle.pj_serve.specs.Shares.{total}
use Rattle.pj_serve.specs.Workers.{AreWorkers}
use Rattle.pj_serve.proofs.staff.workers_at.Given as goal

abbrev pub invariant-loop-door : goal.invariant-loop-door
invariant-loop-door g l = record {
  goes_on : (ws : _) → AreWorkers pass_view g.V.Door.meaning l.repo.made l.doors.items ws → AreWorkers pass_view g.V.Door.meaning l.initial.repo.made l.fn.doors.items (l.workers.items ++ ws);
  made : l.repo.made + total (map g.V.Door.meaning.left l.doors.items) ≡ l.initial.repo.made + total (map g.V.Door.meaning.left l.fn.doors.items);
  room : length l.workers.items + length l.doors.items ≤ vec_capacity l.workers;
  limits : l.repo.limits ≡ l.initial.repo.limits;
  number : l.zero.number ≡ l.initial.zero.number;
  own : own (pass_view l.zero) ≡ own (pass_view l.initial.zero);
}

abbrev pub decreases-loop-door : goal.decreases-loop-door
decreases-loop-door g l = length l.doors.items
