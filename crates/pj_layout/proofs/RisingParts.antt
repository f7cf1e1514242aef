-- The order of the linked sets that a search finds.
use Rattle.std.proofs.Common.{◌≡◌, ℕ, zero, suc, ◌<◌, ◌≤◌, List, [], ◌∷◌, length, get_or, slice_index, subst, refl, arith, inl, inr, Bool, true, false}
use Rattle.std.specs.Prelude.{Contains, AllPairs, IsTrue, ◌≢◌}
use Rattle.std.specs.Ordering.{nat_cmp}
use Rattle.std.specs.List.Sorted.{IsStrictlySortedBy, IsNonDecreasingBy}
use Rattle.std.proofs.lemmas.Bool.{cases_Bool}
use Rattle.std.proofs.lemmas.List.Elements.{Contains-get_or}
use Rattle.std.proofs.lemmas.Map.Keys.{below_from_sorted}
use Rattle.pj_bits.specs.Matrix.{bit}
use Rattle.pj_change.specs.Layout.{IsChain, here, on, IsLinked, AreApart, IsStrictOrder, AreUnordered, AreOrdered, AllBefore, LeastBelow}
use Rattle.pj_layout.specs.Orders.{Before, IsPrepared}
use Rattle.pj_layout.specs.Parts.{Precedes, ArePartsOf}

-- ---- sets that are linked where there is no order

module _ (test : ℕ → ℕ → Bool) (strict : IsStrictOrder (λ x y. IsTrue (test x y))) where
  not_true : (b : Bool) → b ≡ false → b ≡ true → ⊥
  not_true b e f = cc

  -- of two classes that are apart, one is before the other
  ordered_if_apart : (x y : ℕ) → x ≢ y → (AreUnordered (λ x y. IsTrue (test x y)) x y → ⊥) → AreOrdered (λ x y. IsTrue (test x y)) x y
  ordered_if_apart x y differ unlinked = elim (cases_Bool (test x y)) [
    | inl b ↦ inl b
    | inr n ↦ elim (cases_Bool (test y x)) [
      | inl b ↦ inr b
      | inr k ↦ absurd (unlinked (differ, not_true (test x y) n, not_true (test y x) k))
    ]
  ]

  module _ (g h : List ℕ) (apart : AreApart (AreUnordered (λ x y. IsTrue (test x y))) g h) where
    pub ordered : (x y : ℕ) → Contains g x → Contains h y → AreOrdered (λ x y. IsTrue (test x y)) x y
    ordered x y m n = (let a = apart x y m n in ordered_if_apart x y a.0 a.1)

    -- a class that is before one of a linked set is before all of it
    before_next : (x y z : ℕ) → Contains g x → Contains h z → IsTrue (test x y) → AreUnordered (λ x y. IsTrue (test x y)) y z → IsTrue (test x z)
    before_next x y z m n b u = elim (ordered x z m n) [ inl c ↦ c | inr c ↦ absurd (u.2 (strict.transitive z x y c b)) ]

    before_all : {x y z : ℕ} → Contains g x → IsTrue (test x y) → IsChain (AreUnordered (λ x y. IsTrue (test x y))) h y z → IsTrue (test x z)
    before_all m b (here n) = b
    before_all {x = x} m b (on {y = y} {z = z} c l n) = before_next x y z m n (before_all m b c) l

    -- and all of a linked set are before a class that one of it is before
    next_before : (x y z : ℕ) → Contains g z → Contains h y → IsTrue (test x y) → AreUnordered (λ x y. IsTrue (test x y)) x z → IsTrue (test z y)
    next_before x y z m n b u = elim (ordered z y m n) [ inl c ↦ c | inr c ↦ absurd (u.1 (strict.transitive x y z b c)) ]

    all_before : {x y z : ℕ} → Contains h y → IsTrue (test x y) → IsChain (AreUnordered (λ x y. IsTrue (test x y))) g x z → IsTrue (test z y)
    all_before n b (here m) = b
    all_before {y = y} n b (on {y = x} {z = z} c l m) = next_before x y z m n (all_before n b c) l

    -- where one of the one set is before one of the other, all are before all
    pub one_before : IsLinked (AreUnordered (λ x y. IsTrue (test x y))) g → IsLinked (AreUnordered (λ x y. IsTrue (test x y))) h →
        (x y : ℕ) → Contains g x → Contains h y → IsTrue (test x y) → AllBefore (λ x y. IsTrue (test x y)) g h
    one_before linked_g linked_h x y m n b z w k l = all_before l (before_all m b (linked_h y w n l)) (linked_g x z m k)

-- in a list by rising rank, a class that stands before another is not after it
module _ (before after : List (List Bool)) (ranks : List ℕ) (prepared : IsPrepared before after ranks) (xs : List ℕ) (rising : IsNonDecreasingBy (λ x. slice_index ranks x) xs) where
  never_after : (x y : ℕ) → Precedes xs x y → Before before y x → ⊥
  never_after x y (i, j, low, high, x_at, y_at) b =
      let up : slice_index ranks (slice_index xs i) ≤ slice_index ranks (slice_index xs j) = rising i j 0 (omega (arith, low)) high in
      let back : slice_index ranks y < slice_index ranks x = prepared.rising y x b in
      let up' : slice_index ranks x ≤ slice_index ranks y = subst (λ v. slice_index ranks x ≤ slice_index ranks v) y_at (subst (λ v. slice_index ranks v ≤ slice_index ranks (slice_index xs j)) x_at up) in
      omega (arith, back, up')

  -- of two sets that are linked where there is no order, all of the earlier one are before all of the later one
  pub parts_rise : (parts : List (List ℕ)) → ArePartsOf (AreUnordered (Before before)) xs parts → AllPairs (AllBefore (Before before)) parts
  parts_rise parts found i j d low high =
      let g = get_or parts i d in
      let h = get_or parts j d in
      let start = found.started i j d low high in
      let y = get_or h 0 0 in
      let y_in : Contains h y = Contains-get_or h 0 0 (found.nonempty j d high) in
      let apart = found.apart i j d low high in
      one_before (bit before) prepared.strict g h apart (found.linked i d (omega (arith, low, high))) (found.linked j d high) start.0 y start.1 y_in
      (forwards start.0 y (start.2 y y_in) (ordered (bit before) prepared.strict g h apart start.0 y start.1 y_in))
    where
      forwards : (x y : ℕ) → Precedes xs x y → AreOrdered (Before before) x y → Before before x y
      forwards x y p (inl b) = b
      forwards x y p (inr b) = absurd (never_after x y p b)

-- ---- sets by their least classes

pub first_least : (x : ℕ) (xs : List ℕ) → IsStrictlySortedBy nat_cmp (x ∷ xs) → (y : ℕ) → Contains (x ∷ xs) y → x ≤ y
first_least x xs sorted y (zero, low, is) = omega (arith, is)
first_least x xs sorted y (suc k, low, is) = (let below : x < get_or (x ∷ xs) (suc k) y = below_from_sorted (x ∷ xs) 0 (suc k) y sorted (omega arith) low in omega (arith, below, is))

least_below : (g h : List ℕ) → IsStrictlySortedBy nat_cmp g → 0 < length h → (x : ℕ) → Contains g x → ((y : ℕ) → Contains h y → x < y) → LeastBelow g h
least_below [] h sorted some x m below = absurd (omega (arith, m.1))
least_below (a ∷ g) [] sorted some x m below = absurd (omega (arith, some))
least_below (a ∷ g) (b ∷ h) sorted some x m below =
    let low = first_least a g sorted x m in
    let high = below b (0, omega arith, refl) in
    omega (arith, low, high)

-- of two parts of a rising list, the earlier one has the least class
module _ (link : ℕ → ℕ → Type 0) (xs : List ℕ) (rising : IsStrictlySortedBy nat_cmp xs) where
  earlier_below : (x y : ℕ) → Precedes xs x y → x < y
  earlier_below x y (i, j, low, high, x_at, y_at) = (let up = below_from_sorted xs i j 0 rising low high in omega (arith, up, x_at, y_at))

  pub least_rise : (parts : List (List ℕ)) → ArePartsOf link xs parts → AllPairs LeastBelow parts
  least_rise parts found i j d low high =
      let start = found.started i j d low high in
      least_below (get_or parts i d) (get_or parts j d) (found.sorted i d (omega (arith, low, high))) (found.nonempty j d high) start.0 start.1
      (λ y n. earlier_below start.0 y (start.2 y n))
