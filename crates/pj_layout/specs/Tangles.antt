-- A tangle in the making.
use Rattle.std.specs.Prelude.{ℕ, ◌≤◌, not, nat_eq, filter, List, [], ◌∷◌}
use Rattle.pj_change.specs.Layout.{IsFree}

-- what is left of X once the listed classes are taken
abbrev pub left : List ℕ → List ℕ → List ℕ
left X [] = X
left X (x ∷ xs) = left (filter (λ y. not (nat_eq x y)) X) xs

-- each of the listed classes was the least free one when it was taken
abbrev pub WereTaken : (ℕ → ℕ → Type 0) → List ℕ → List ℕ → Type 0
WereTaken before X [] = Unit {0}
WereTaken before X (x ∷ xs) = IsFree before X x × ((y : ℕ) → IsFree before X y → x ≤ y) × WereTaken before (filter (λ y. not (nat_eq x y)) X) xs
