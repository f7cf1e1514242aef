-- What the parts of a closure keep: their sizes fit.
use Rattle.std.specs.Prelude.{◌≡◌, ℕ, ◌<◌, Bool, List, length, slice_index}
use Rattle.pj_bits.specs.Matrix.{size as size_of}

-- each vertex has a class, each class a bit for cyclic, and each two classes one for their order
pub record IsKept (size classes : ℕ) (class_of : List ℕ) (cyclic : List Bool) (before : List (List Bool)) : Type 0 where
  pub class_len : length class_of ≡ size
  pub cyclic_len : length cyclic ≡ classes
  pub before_size : size_of before ≡ classes
  pub below : (a : ℕ) → a < size → slice_index class_of a < classes
