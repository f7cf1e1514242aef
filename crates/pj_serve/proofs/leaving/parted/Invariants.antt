-- What was taken from workers so far, and what is left.
use Rattle.std.proofs.Common.{◌≡◌, ◌+◌, ◌≤◌, ◌++◌, length, map, vec_capacity}
use Rattle.std.specs.Prelude.{flat_map}
use Rattle.pj_serve.specs.Shifts.{own_ends, shift_of}
use Rattle.pj_serve.proofs.leaving.parted.Given as goal

abbrev pub invariant-loop-door : goal.invariant-loop-door
invariant-loop-door g l = record {
  passes : l.passes.items ++ map (λ t. t.pass) (flat_map (λ w. w.turns.items) l.workers.items) ≡ l.fn.left.passes.items ++ map (λ t. t.pass) (flat_map (λ w. w.turns.items) l.fn.workers.items);
  kept : l.kept.items ++ flat_map (λ w. w.kept.items) l.workers.items ≡ flat_map (λ w. w.kept.items) l.fn.workers.items;
  ends : l.ends.items ++ flat_map (λ w. w.ends.items) l.workers.items ≡ own_ends 1 (map shift_of l.fn.workers.items) ++ flat_map (λ w. w.ends.items) l.fn.workers.items;
  doors : l.doors.items ++ map (λ w. w.door) l.workers.items ≡ map (λ w. w.door) l.fn.workers.items;
  passes_room : length l.passes.items + length (flat_map (λ w. w.turns.items) l.workers.items) ≤ vec_capacity l.passes;
  kept_room : length l.kept.items + length (flat_map (λ w. w.kept.items) l.workers.items) ≤ vec_capacity l.kept;
  ends_room : length l.ends.items + length (flat_map (λ w. w.ends.items) l.workers.items) ≤ vec_capacity l.ends;
  doors_room : length l.doors.items + length l.workers.items ≤ vec_capacity l.doors;
}

abbrev pub decreases-loop-door : goal.decreases-loop-door
decreases-loop-door g l = length l.workers.items
