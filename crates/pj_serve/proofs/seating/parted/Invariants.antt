-- What was taken apart so far, and what is left.
use Rattle.std.proofs.Common.{◌≡◌, ◌+◌, ◌≤◌, ◌++◌, ◌∷◌, length, map, vec_capacity}
use Rattle.pj_serve.proofs.seating.parted.Given as goal

abbrev pub invariant-loop-pass : goal.invariant-loop-pass
invariant-loop-pass g l = record {
  passes : l.passes.items ++ map (λ s. s.pass) l.seats.items ≡ l.fn.zero ∷ map (λ s. s.pass) l.fn.seats.items;
  kept : l.kept.items ++ map (λ s. record { pass = s.pass.number; source = s.source; sink = s.sink }) l.seats.items ≡ map (λ s. record { pass = s.pass.number; source = s.source; sink = s.sink }) l.fn.seats.items;
  ends : l.ends.items ++ map (λ s. record { pass = s.pass.number; end = s.end }) l.seats.items ≡ map (λ s. record { pass = s.pass.number; end = s.end }) l.fn.seats.items;
  passes_room : length l.passes.items + length l.seats.items ≤ vec_capacity l.passes;
  kept_room : length l.kept.items + length l.seats.items ≤ vec_capacity l.kept;
  ends_room : length l.ends.items + length l.seats.items ≤ vec_capacity l.ends;
}

abbrev pub decreases-loop-pass : goal.decreases-loop-pass
decreases-loop-pass g l = length l.seats.items
