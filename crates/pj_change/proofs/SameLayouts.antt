-- The layout sees no more of an order than which is before which.
use Rattle.std.proofs.Common.{ℕ, suc, List, [], ◌∷◌, inl, inr}
use Rattle.std.specs.Prelude.{AllPairs, filter, not, nat_eq}
use Rattle.std.proofs.lemmas.List.Elements.{All-weaker}
use Rattle.pj_change.specs.Layout.{Shape, Shapes, One, Series, Sides, Tangle, none, more, IsChain, here, on, IsLinked, AreLinkedSets, AreUnordered, AreOrdered, AllBefore, IsFree, IsTangle, IsLayout, AreLayouts}

-- ---- linked sets under links that lead alike

chain-same : (link link' : ℕ → ℕ → Type 0) → ((x y : ℕ) → link x y → link' x y) → {X : List ℕ} {x y : ℕ} → IsChain link X x y → IsChain link' X x y
chain-same link link' e (here m) = here m
chain-same link link' e (on {y = y} {z = z} c l m) = on (chain-same link link' e c) (e y z l) m

linked-same : (link link' : ℕ → ℕ → Type 0) → ((x y : ℕ) → link x y → link' x y) → (X : List ℕ) → IsLinked link X → IsLinked link' X
linked-same link link' e X h = λ x y m n. chain-same link link' e (h x y m n)

sets-same : (link link' : ℕ → ℕ → Type 0) → ((x y : ℕ) → link x y → link' x y) → ((x y : ℕ) → link' x y → link x y) →
    (X : List ℕ) (parts : List (List ℕ)) → AreLinkedSets link X parts → AreLinkedSets link' X parts
sets-same link link' e f X parts h = record {
  several = h.several;
  members = h.members;
  sorted = h.sorted;
  nonempty = h.nonempty;
  linked = All-weaker (IsLinked link) (IsLinked link') (linked-same link link' e) parts h.linked;
  apart = λ i j d l k x y m n. (let a = h.apart i j d l k x y m n in (a.0, λ g. a.1 (f x y g)));
}

module _ (before before' : ℕ → ℕ → Type 0) (e : (x y : ℕ) → before x y → before' x y) (f : (x y : ℕ) → before' x y → before x y) where
  unordered : (x y : ℕ) → AreUnordered before x y → AreUnordered before' x y
  unordered x y h = (h.0, λ b. h.1 (f x y b), λ b. h.2 (f y x b))

  unordered_back : (x y : ℕ) → AreUnordered before' x y → AreUnordered before x y
  unordered_back x y h = (h.0, λ b. h.1 (e x y b), λ b. h.2 (e y x b))

  ordered : (x y : ℕ) → AreOrdered before x y → AreOrdered before' x y
  ordered x y h = elim h [ inl b ↦ inl (e x y b) | inr b ↦ inr (e y x b) ]

  ordered_back : (x y : ℕ) → AreOrdered before' x y → AreOrdered before x y
  ordered_back x y h = elim h [ inl b ↦ inl (f x y b) | inr b ↦ inr (f y x b) ]

  free : (X : List ℕ) (x : ℕ) → IsFree before X x → IsFree before' X x
  free X x h = record { member = h.member; first = λ y m b. h.first y m (f y x b) }

  free_back : (X : List ℕ) (x : ℕ) → IsFree before' X x → IsFree before X x
  free_back X x h = record { member = h.member; first = λ y m b. h.first y m (e y x b) }

  tangle-same : (X xs : List ℕ) → IsTangle before X xs → IsTangle before' X xs
  tangle-same X [] h = h
  tangle-same X (x ∷ xs) h = (free X x h.0, λ y g. h.1 y (free_back X y g), tangle-same (filter (λ y. not (nat_eq x y)) X) xs h.2)

  before_pairs : (parts : List (List ℕ)) → AllPairs (AllBefore before) parts → AllPairs (AllBefore before') parts
  before_pairs parts h = λ i j d l k x y m n. e x y (h i j d l k x y m n)

  mutual
    pub layout-same : (depth : ℕ) (X : List ℕ) (s : Shape) → IsLayout before depth X s → IsLayout before' depth X s
    layout-same depth X (One x) h = h
    layout-same depth X (Series none) h = h
    layout-same depth X (Series (more s ss)) h =
        (h.0, h.1, sets-same (AreUnordered before) (AreUnordered before') unordered unordered_back X h.1 h.2, before_pairs h.1 h.3, layouts-same (suc depth) h.1 (more s ss) h.4)
    layout-same depth X (Sides ss) h = (
      h.0,
      linked-same (AreUnordered before) (AreUnordered before') unordered X h.1,
      h.2,
      sets-same (AreOrdered before) (AreOrdered before') ordered ordered_back X h.2 h.3,
      h.4,
      layouts-same (suc depth) h.2 ss h.5,
    )
    layout-same depth X (Tangle xs) h = (
      h.0,
      elim h.1 [
        | inl d ↦ inl d
        | inr k ↦ inr (k.0, linked-same (AreUnordered before) (AreUnordered before') unordered X k.1, linked-same (AreOrdered before) (AreOrdered before') ordered X k.2)
      ],
      tangle-same X xs h.2,
    )

    layouts-same : (depth : ℕ) (parts : List (List ℕ)) (ss : Shapes) → AreLayouts before depth parts ss → AreLayouts before' depth parts ss
    layouts-same depth parts none h = h
    layouts-same depth parts (more s ss) h = (h.0, h.1, h.2, layout-same depth h.0 s h.3, layouts-same depth h.1 ss h.4)
