-- What a call gives for the items of a list, and what was given for some of them, each with the number of its item.
use Rattle.std.specs.Prelude.{◌≡◌, ℕ, ◌<◌, List, length, get_or, Option, Contains, IfSome, Result, Ok}
use Rattle.std.specs.Fn.{Shared, FnReturnsAt}
use denote.Ref.{Bor}

-- a call of f at x gives y
abbrev pub Gives : {F X Y E : Type 0} → Shared F (Bor X × Unit {0}) (Result Y E) → F → X → Y → Type 0
Gives g f x y = FnReturnsAt g f x (Ok y)

-- what was given is of the item with this number
abbrev pub IsGivenFor : {X Y : Type 0} → (X → Y → Type 0) → List X → ℕ × Y → Type 0
IsGivenFor {X} P xs given = (x : X) × (given.0 < length xs) × (get_or xs given.0 x ≡ x) × P x given.1

-- each of them is of the item with its number
abbrev pub AreGivenFor : {X Y : Type 0} → (X → Y → Type 0) → List X → List (ℕ × Y) → Type 0
AreGivenFor {X} {Y} P xs all = (given : ℕ × Y) → Contains all given → IsGivenFor P xs given

-- what stands in the place of an item is of this item, if anything does
abbrev pub IsGivenIfSome : {X Y : Type 0} → (X → Y → Type 0) → X → Option Y → Type 0
IsGivenIfSome P x place = IfSome place (P x)
