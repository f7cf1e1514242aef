use Rattle.std.proofs.Common.{◌≡◌, ℕ, ◌+◌, ◌<◌}
use Rattle.std.specs.Prelude.{slice_get, Some}
use Rattle.pj_inverse.proofs.hunks.number_of.Given as goal

abbrev pub invariant-loop-need : goal.invariant-loop-need
invariant-loop-need l = record {
  number : l.number ≡ l.need-index + 1;
  before : (k : ℕ) → k < l.need-index → slice_get l.needs k ≡ Some l.name → ⊥;
}
