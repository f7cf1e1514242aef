-- What is proved of layouts as such.
use Rattle.std.specs.Prelude.{◌≡◌, ℕ, Bool, IsTrue}
use Rattle.std.specs.List.{range_with_len}
use Rattle.pj_change.specs.Layout.{Shape, IsStrictOrder, IsLayout}

-- each strict order of the classes 0 to n - 1 has exactly one layout
abbrev pub ExactlyOneLayout : Type 0
ExactlyOneLayout =
    (before : ℕ → ℕ → Bool) → IsStrictOrder (λ x y. IsTrue (before x y)) → (n : ℕ) →
    (s : Shape) × IsLayout (λ x y. IsTrue (before x y)) 0 (range_with_len 0 n) s
    × ((t : Shape) → IsLayout (λ x y. IsTrue (before x y)) 0 (range_with_len 0 n) t → t ≡ s)
