-- The layout of a finite set of classes under an order. A class is a number, and the smaller number has the smaller least point.
use Rattle.std.specs.Prelude.{◌≡◌, ◌≢◌, ℕ, suc, ◌<◌, ◌≤◌, not, List, [], ◌∷◌, length, nat_eq, filter, Contains, All, AllPairs, Any, ◌⊎◌, ◌↔◌}
use Rattle.std.specs.Ordering.{nat_cmp}
use Rattle.std.specs.List.Sorted.{IsStrictlySortedBy}
use Rattle.pj_change.specs.declared.limits.TheConstants.{DEEPEST_LAYOUT}

mutual
  -- what a layout is: one class, layouts one after the other, layouts side by side, or classes in a tangle
  pub data Shape : Type 0 where
    One : ℕ → Shape
    Series : Shapes → Shape
    Sides : Shapes → Shape
    Tangle : List ℕ → Shape

  -- a list of them
  pub data Shapes : Type 0 where
    none : Shapes
    more : Shape → Shapes → Shapes

-- ---- linked sets

-- links lead from the first to the second, within X
pub data IsChain (link : ℕ → ℕ → Type 0) (X : List ℕ) (x : ℕ) : ℕ → Type 0 where
  here : Contains X x → IsChain link X x x
  on : {y z : ℕ} → IsChain link X x y → link y z → Contains X z → IsChain link X x z

-- links join each two members
abbrev pub IsLinked : (ℕ → ℕ → Type 0) → List ℕ → Type 0
IsLinked link X = (x y : ℕ) → Contains X x → Contains X y → IsChain link X x y

-- no member of the one set is in the other or linked to it
abbrev pub AreApart : (ℕ → ℕ → Type 0) → List ℕ → List ℕ → Type 0
AreApart link g h = (x y : ℕ) → Contains g x → Contains h y → (x ≢ y) × (link x y → ⊥)

-- two or more linked sets that make up X
pub record AreLinkedSets (link : ℕ → ℕ → Type 0) (X : List ℕ) (parts : List (List ℕ)) : Type 0 where
  pub several : 2 ≤ length parts
  pub members : (x : ℕ) → Contains X x ↔ Any (λ part. Contains part x) parts
  pub sorted : All (IsStrictlySortedBy nat_cmp) parts
  pub nonempty : All (λ part. 0 < length part) parts
  pub linked : All (IsLinked link) parts
  pub apart : AllPairs (AreApart link) parts

-- ---- the layout

-- the least member of the one set, which is its first, is below that of the other
abbrev pub LeastBelow : List ℕ → List ℕ → Type 0
LeastBelow (x ∷ g) (y ∷ h) = x < y
LeastBelow g h = ⊥

-- no class is before itself, and what is before something is before all that it is before
pub record IsStrictOrder (before : ℕ → ℕ → Type 0) : Type 0 where
  pub irreflexive : (x : ℕ) → before x x → ⊥
  pub transitive : (x y z : ℕ) → before x y → before y z → before x z

module _ (before : ℕ → ℕ → Type 0) where
  -- two classes of which neither is before the other
  abbrev pub AreUnordered : ℕ → ℕ → Type 0
  AreUnordered x y = (x ≢ y) × (before x y → ⊥) × (before y x → ⊥)

  -- two classes of which one is before the other
  abbrev pub AreOrdered : ℕ → ℕ → Type 0
  AreOrdered x y = before x y ⊎ before y x

  -- all of the one set before all of the other
  abbrev pub AllBefore : List ℕ → List ℕ → Type 0
  AllBefore g h = (x y : ℕ) → Contains g x → Contains h y → before x y

  -- a member that no member is before
  pub record IsFree (X : List ℕ) (x : ℕ) : Type 0 where
    pub member : Contains X x
    pub first : (y : ℕ) → Contains X y → before y x → ⊥

  -- the list takes the least free member of X, then that of what is left, and so on
  abbrev pub IsTangle : List ℕ → List ℕ → Type 0
  IsTangle X [] = X ≡ []
  IsTangle X (x ∷ xs) = IsFree X x × ((y : ℕ) → IsFree X y → x ≤ y) × IsTangle (filter (λ y. not (nat_eq x y)) X) xs

  abbrev mutual
    -- The shape is the layout of the set X at this depth: the first of six rules that applies.
    pub IsLayout : ℕ → List ℕ → Shape → Type 0
    -- one class
    IsLayout depth X (One x) = X ≡ x ∷ []
    -- no class
    IsLayout depth X (Series none) = X ≡ []
    -- two or more sets that are linked where there is no order, one after the other
    IsLayout depth X (Series (more s ss)) =
        (depth < DEEPEST_LAYOUT) × (parts : List (List ℕ)) × AreLinkedSets AreUnordered X parts × AllPairs AllBefore parts × AreLayouts (suc depth) parts (more s ss)
    -- else two or more sets that are linked where there is an order, by their least members
    IsLayout depth X (Sides ss) =
        (depth < DEEPEST_LAYOUT) × IsLinked AreUnordered X × (parts : List (List ℕ)) × AreLinkedSets AreOrdered X parts × AllPairs LeastBelow parts × AreLayouts (suc depth) parts ss
    -- else, and for two or more classes at the deepest level, a tangle
    IsLayout depth X (Tangle xs) =
        (2 ≤ length X) × ((depth ≡ DEEPEST_LAYOUT) ⊎ ((depth < DEEPEST_LAYOUT) × IsLinked AreUnordered X × IsLinked AreOrdered X)) × IsTangle X xs

    -- the layouts of the sets
    pub AreLayouts : ℕ → List (List ℕ) → Shapes → Type 0
    AreLayouts depth parts none = parts ≡ []
    AreLayouts depth parts (more s ss) = (part : List ℕ) × (rest : List (List ℕ)) × (parts ≡ part ∷ rest) × IsLayout depth part s × AreLayouts depth rest ss
