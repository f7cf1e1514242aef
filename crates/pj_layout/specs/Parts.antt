-- Linked sets of classes, as a search finds them.
use Rattle.std.specs.Prelude.{◌≡◌, ℕ, ◌<◌, Bool, true, List, length, slice_index, Contains, All, AllPairs, Any, ◌⊎◌, ◌↔◌}
use Rattle.std.specs.Ordering.{nat_cmp}
use Rattle.std.specs.List.Sorted.{IsStrictlySortedBy}
use Rattle.pj_bits.specs.Row.{has}
use Rattle.pj_change.specs.Layout.{IsLinked, AreApart, AreOrdered, AreUnordered}
use Rattle.pj_layout.specs.declared.link.Link.{Link}
use Rattle.pj_layout.specs.declared.link.Link.TheVariants.{Ordered, Unordered}

-- which classes a kind of link joins
abbrev pub Joins : Link → (ℕ → ℕ → Type 0) → ℕ → ℕ → Type 0
Joins Ordered before = AreOrdered before
Joins Unordered before = AreUnordered before

-- a linked set, which was taken out of a row of classes
pub record IsTaken (link : ℕ → ℕ → Type 0) (old new : List Bool) (start : ℕ) (part : List ℕ) : Type 0 where
  pub start_in : Contains part start
  pub sorted : IsStrictlySortedBy nat_cmp part
  pub linked : IsLinked link part
  pub were : (x : ℕ) → Contains part x → has old x ≡ true
  pub gone : (x : ℕ) → Contains part x → has new x ≡ true → ⊥
  pub others : (x : ℕ) → has new x ≡ true → has old x ≡ true
  pub all : (x : ℕ) → has old x ≡ true → Contains part x ⊎ (has new x ≡ true)
  pub apart : (x y : ℕ) → Contains part x → has new y ≡ true → link x y → ⊥

-- x stands before y in the list
abbrev pub Precedes : List ℕ → ℕ → ℕ → Type 0
Precedes xs x y = (i j : ℕ) × (i < j) × (j < length xs) × (slice_index xs i ≡ x) × (slice_index xs j ≡ y)

-- a member of the one set stands before all of the other
abbrev pub StartsBefore : List ℕ → List ℕ → List ℕ → Type 0
StartsBefore xs g h = (x : ℕ) × Contains g x × ((y : ℕ) → Contains h y → Precedes xs x y)

-- the linked sets that make up the members of a list, each with its first member before all those of later sets
pub record ArePartsOf (link : ℕ → ℕ → Type 0) (xs : List ℕ) (parts : List (List ℕ)) : Type 0 where
  pub members : (x : ℕ) → Contains xs x ↔ Any (λ part. Contains part x) parts
  pub sorted : All (IsStrictlySortedBy nat_cmp) parts
  pub nonempty : All (λ part. 0 < length part) parts
  pub linked : All (IsLinked link) parts
  pub apart : AllPairs (AreApart link) parts
  pub started : AllPairs (StartsBefore xs) parts
