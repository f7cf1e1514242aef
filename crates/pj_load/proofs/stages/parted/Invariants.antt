-- What was taken apart so far, and what is left.
use Rattle.std.proofs.Common.{◌≡◌, ◌+◌, ◌≤◌, ◌++◌, ◌∷◌, length, map, vec_capacity}
use Rattle.pj_load.proofs.stages.parted.Given as goal

abbrev pub invariant-loop-pass : goal.invariant-loop-pass
invariant-loop-pass g l = record {
  passes : l.passes.items ++ map (λ s. s.pass) l.seats.items ≡ l.fn.zero ∷ l.fn.prelude.0 ∷ map (λ s. s.pass) l.fn.seats.items;
  ends : l.ends.items ++ map (λ s. record { pass = s.pass.number; end = s.end }) l.seats.items ≡ record { pass = l.fn.prelude.0.number; end = l.fn.prelude.1 } ∷ map (λ s. record { pass = s.pass.number; end = s.end }) l.fn.seats.items;
  passes_room : length l.passes.items + length l.seats.items + 1 ≤ vec_capacity l.passes;
  ends_room : length l.ends.items + length l.seats.items + 1 ≤ vec_capacity l.ends;
}

abbrev pub decreases-loop-pass : goal.decreases-loop-pass
decreases-loop-pass g l = length l.seats.items
