-- The ends of the workers so far, and those of the others.
use Rattle.std.proofs.Common.{◌≡◌, ◌+◌, ◌≤◌, ◌++◌, length, map, drop, vec_capacity}
use Rattle.pj_serve.specs.Shifts.{own_ends, shift_of}
use Rattle.pj_serve.proofs.leaving.with_own_ends.Given as goal

abbrev pub invariant-loop-index : goal.invariant-loop-index
invariant-loop-index g l = record {
  items : l.ends.items ++ own_ends (1 + l.index) (map shift_of (drop l.index l.workers)) ≡ own_ends 1 (map shift_of l.workers);
  count : length l.ends.items ≤ l.index;
  room : length l.workers ≤ vec_capacity l.ends;
  capacity : vec_capacity l.fn.ends ≤ vec_capacity l.ends;
}
