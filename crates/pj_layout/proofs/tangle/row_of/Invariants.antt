use Rattle.std.proofs.Common.{◌≡◌, ℕ, true, length, take}
use Rattle.std.specs.Prelude.{◌↔◌, Contains}
use Rattle.pj_bits.specs.Row.{has}
use Rattle.pj_layout.proofs.tangle.row_of.Given as goal

-- the row has the first classes
abbrev pub invariant-loop-class : goal.invariant-loop-class
invariant-loop-class l = record {
  width : length l.row ≡ l.size;
  classes : (c : ℕ) → (has l.row c ≡ true) ↔ Contains (take l.class-index l.classes) c;
}
