use Rattle.std.proofs.Common.{◌≡◌, ◌≢◌, ℕ, ◌+◌, ◌<◌, ◌≤◌, ◌⊎◌, nat_eq}
use Rattle.std.specs.Prelude.{◌||◌}
use Rattle.std.specs.Int.{bit_at}
use Rattle.pj_bits.specs.Matrix.{bit, size as size_of}
use Rattle.pj_bits.proofs.matrix.BitMatrix.set_down.Given as goal

-- each bit is in the matrix or still to be set, and the others are as they were
abbrev pub invariant-loop-left : goal.invariant-loop-left
invariant-loop-left l = record {
  size : size_of l.self ≡ size_of l.initial.self;
  here : (j : ℕ) → j < 64 → l.first + j < size_of l.initial.self → (bit l.self (l.first + j) l.column || nat_eq (bit_at l.left j) 1) ≡ (bit l.initial.self (l.first + j) l.column || nat_eq (bit_at l.bits j) 1);
  others : (r k : ℕ) → (k ≢ l.column) ⊎ (r < l.first) ⊎ (l.first + 64 ≤ r) ⊎ (size_of l.initial.self ≤ r) → bit l.self r k ≡ bit l.initial.self r k;
}

abbrev pub decreases-loop-left : goal.decreases-loop-left
decreases-loop-left l = l.left
