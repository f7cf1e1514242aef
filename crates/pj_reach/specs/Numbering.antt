-- The trees of a graph, numbered by their least vertices.
use Rattle.std.specs.Prelude.{◌≡◌, ◌≢◌, ℕ, ◌<◌, List, length, slice_index, ◌↔◌}

-- a is the first number of its tree
abbrev pub IsFirst : List ℕ → ℕ → Type 0
IsFirst tree_of a = (b : ℕ) → b < a → slice_index tree_of b ≢ slice_index tree_of a

-- there is one class for each tree, and the classes are 0, 1, .. in the order of the trees' first numbers
pub record IsNumbering (size : ℕ) (tree_of class_of : List ℕ) (classes : ℕ) : Type 0 where
  pub class_len : length class_of ≡ size
  pub in_range : (a : ℕ) → a < size → slice_index class_of a < classes
  pub one_class : (a b : ℕ) → a < size → b < size → (slice_index class_of a ≡ slice_index class_of b) ↔ (slice_index tree_of a ≡ slice_index tree_of b)
  pub first : (class : ℕ) → class < classes → (a : ℕ) × (a < size) × (slice_index class_of a ≡ class) × IsFirst tree_of a
  pub rising : (a b : ℕ) → b < size → a < b → IsFirst tree_of a → IsFirst tree_of b → slice_index class_of a < slice_index class_of b
