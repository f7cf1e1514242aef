-- The classes that a layout names.
use Rattle.std.specs.Prelude.{ℕ, ◌<◌, Bool, IsTrue, List, All}
use Rattle.pj_change.specs.Layout.{Shape, Shapes, One, Series, Sides, Tangle, none, more, IsLayout}

abbrev mutual
  -- each class that the layout names is below n
  pub NamesBelow : ℕ → Shape → Type 0
  NamesBelow n (One x) = x < n
  NamesBelow n (Series shapes) = NameBelow n shapes
  NamesBelow n (Sides shapes) = NameBelow n shapes
  NamesBelow n (Tangle xs) = All (λ x. x < n) xs

  -- each class that one of the layouts names
  pub NameBelow : ℕ → Shapes → Type 0
  NameBelow n none = Unit {0}
  NameBelow n (more s ss) = NamesBelow n s × NameBelow n ss

-- the layout of a set of classes names no class outside the set
abbrev pub LayoutsNameTheirClasses : Type 0
LayoutsNameTheirClasses =
    (before : ℕ → ℕ → Bool) (depth n : ℕ) (X : List ℕ) (shape : Shape)
    → All (λ x. x < n) X → IsLayout (λ x y. IsTrue (before x y)) depth X shape → NamesBelow n shape
