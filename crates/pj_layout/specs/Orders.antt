-- The strict order of classes that a matrix of bits gives.
use Rattle.std.specs.Prelude.{◌≡◌, ℕ, ◌<◌, Bool, true, IsTrue, List, length, slice_index}
use Rattle.pj_bits.specs.Matrix.{bit, size}
use Rattle.pj_change.specs.Layout.{IsStrictOrder}

-- the bit in row x and column y says whether x is before y
abbrev pub Before : List (List Bool) → ℕ → ℕ → Type 0
Before rows x y = IsTrue (bit rows x y)

-- a strict order, the same turned round, and a rank for each class, which rises along the order
pub record IsPrepared (before after : List (List Bool)) (ranks : List ℕ) : Type 0 where
  pub strict : IsStrictOrder (Before before)
  pub after_size : size after ≡ size before
  pub turned : (x y : ℕ) → bit after x y ≡ bit before y x
  pub ranked : length ranks ≡ size before
  pub rising : (x y : ℕ) → bit before x y ≡ true → slice_index ranks x < slice_index ranks y
