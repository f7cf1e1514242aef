-- The passes so far, and those that are left.
use Rattle.std.proofs.Common.{◌≡◌, ◌+◌, ◌≤◌, ◌++◌, length, map, vec_capacity}
use Rattle.pj_serve.proofs.leaving.with_passes.Given as goal

abbrev pub invariant-loop-pass : goal.invariant-loop-pass
invariant-loop-pass g l = record {
  items : l.passes.items ++ map (λ t. t.pass) l.turns.items ≡ l.fn.passes.items ++ map (λ t. t.pass) l.fn.turns.items;
  room : length l.passes.items + length l.turns.items ≤ vec_capacity l.passes;
  capacity : vec_capacity l.fn.passes ≤ vec_capacity l.passes;
}

abbrev pub decreases-loop-pass : goal.decreases-loop-pass
decreases-loop-pass g l = length l.turns.items
