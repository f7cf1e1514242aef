-- Each strict order of finitely many classes has a layout.
use Rattle.std.proofs.Common.{◌≡◌, ℕ, zero, suc, ◌+◌, ◌<◌, ◌≤◌, Bool, true, false, List, [], ◌∷◌, length, get_or, nat_eq, refl, sym, ap, inl, inr, arith}
use Rattle.std.specs.Prelude.{Contains, IsTrue, All, AllPairs, ◌||◌, not}
use Rattle.std.specs.Ordering.{nat_cmp}
use Rattle.std.specs.List.Sorted.{IsStrictlySortedBy}
use Rattle.std.proofs.lemmas.Bool.{cases_lt, eq-eqb, eqb-true, or_cases, or_parts, not-true, not-false, both_ways}
use Rattle.std.proofs.lemmas.List.Elements.{All-head, All-tail, Contains-get_or}
use Rattle.pj_change.specs.Layout.{Shape, Shapes, One, Series, Sides, Tangle, none, more, IsStrictOrder, IsLinked, AreUnordered, AreOrdered, AllBefore, IsTangle, IsLayout, AreLayouts}
use Rattle.pj_layout.specs.Parts.{Precedes, ArePartsOf}
use Rattle.pj_layout.proofs.MadeOfParts.{several_parts, linked_by_one_part}
use Rattle.pj_layout.proofs.Partitions.{parts_exist}
use Rattle.pj_layout.proofs.RisingParts.{least_rise, one_before, ordered}
use Rattle.pj_layout.proofs.TanglesExist.{tangle_exists, tangle_members, tangle_forward}

-- the layouts of sets, where each set has one
module _ (before : ℕ → ℕ → Type 0) (depth : ℕ) (each : (X : List ℕ) → IsStrictlySortedBy nat_cmp X → (s : Shape) × IsLayout before depth X s) where
  layouts_exist : (parts : List (List ℕ)) → All (IsStrictlySortedBy nat_cmp) parts → (ss : Shapes) × AreLayouts before depth parts ss
  layouts_exist [] sorted = (none, refl)
  layouts_exist (part ∷ parts) sorted =
      let first = each part (All-head (IsStrictlySortedBy nat_cmp) part parts sorted) in
      let rest = layouts_exist parts (All-tail (IsStrictlySortedBy nat_cmp) part parts sorted) in
      (more first.0 rest.0, (part, parts, refl, first.1, rest.1))

module _ (test : ℕ → ℕ → Bool) (strict : IsStrictOrder (λ x y. IsTrue (test x y))) where
  abbrev Rel : ℕ → ℕ → Type 0
  Rel x y = IsTrue (test x y)

  -- ---- the links, as tests

  abbrev ordered_test : ℕ → ℕ → Bool
  ordered_test x y = test x y || test y x

  abbrev unordered_test : ℕ → ℕ → Bool
  unordered_test x y = not (nat_eq x y || (test x y || test y x))

  ordered_yes : (x y : ℕ) → ordered_test x y ≡ true → AreOrdered Rel x y
  ordered_yes x y e = elim (or_cases (test x y) (test y x) e) [ inl b ↦ inl b | inr b ↦ inr b ]

  ordered_no : (x y : ℕ) → ordered_test x y ≡ false → AreOrdered Rel x y → ⊥
  ordered_no x y e o = (let k = or_parts (test x y) (test y x) e in elim o [ inl b ↦ both_ways _ k.0 b | inr b ↦ both_ways _ k.1 b ])

  unordered_yes : (x y : ℕ) → unordered_test x y ≡ true → AreUnordered Rel x y
  unordered_yes x y e =
      let k = or_parts (nat_eq x y) (test x y || test y x) (not-true (nat_eq x y || (test x y || test y x)) e) in
      let l = or_parts (test x y) (test y x) k.1 in
      ((λ same. both_ways _ k.0 (eq-eqb x y same)), (λ b. both_ways _ l.0 b), (λ b. both_ways _ l.1 b))

  unordered_no : (x y : ℕ) → unordered_test x y ≡ false → AreUnordered Rel x y → ⊥
  unordered_no x y e u = elim (or_cases (nat_eq x y) (test x y || test y x) (not-false (nat_eq x y || (test x y || test y x)) e)) [
    | inl same ↦ u.0 (eqb-true x y same)
    | inr tied ↦ elim (or_cases (test x y) (test y x) tied) [ inl b ↦ u.1 b | inr b ↦ u.2 b ]
  ]

  ordered_turn : (x y : ℕ) → AreOrdered Rel x y → AreOrdered Rel y x
  ordered_turn x y o = elim o [ inl b ↦ inr b | inr b ↦ inl b ]

  unordered_turn : (x y : ℕ) → AreUnordered Rel x y → AreUnordered Rel y x
  unordered_turn x y u = ((λ e. u.0 (sym e)), u.2, u.1)

  -- ---- one set

  module _ (X : List ℕ) (sorted : IsStrictlySortedBy nat_cmp X) where
    -- all of an earlier set are before all of a later one
    series_rise : (xs : List ℕ) → IsTangle Rel X xs → (parts : List (List ℕ)) → ArePartsOf (AreUnordered Rel) xs parts → AllPairs (AllBefore Rel) parts
    series_rise xs tangle parts found i j d low high =
        let g = get_or parts i d in
        let h = get_or parts j d in
        let start = found.started i j d low high in
        let y = get_or h 0 0 in
        let y_in : Contains h y = Contains-get_or h 0 0 (found.nonempty j d high) in
        let apart = found.apart i j d low high in
        one_before test strict g h apart (found.linked i d (omega (arith, low, high))) (found.linked j d high) start.0 y start.1 y_in
        (forwards start.0 y (start.2 y y_in) (ordered test strict g h apart start.0 y start.1 y_in))
      where
        forwards : (x y : ℕ) → Precedes xs x y → AreOrdered Rel x y → Rel x y
        forwards x y p (inl b) = b
        forwards x y p (inr b) = absurd (tangle_forward test strict X xs tangle x y p b)

    module _ (depth : ℕ) (two : 2 ≤ length X) (shallow : depth < 64) (each : (Y : List ℕ) → IsStrictlySortedBy nat_cmp Y → (s : Shape) × IsLayout Rel (suc depth) Y s) where
      as_series : (xs : List ℕ) → IsTangle Rel X xs → (parts : List (List ℕ)) → ArePartsOf (AreUnordered Rel) xs parts → 2 ≤ length parts → (ss : Shapes) → AreLayouts Rel (suc depth) parts ss → (s : Shape) × IsLayout Rel depth X s
      as_series xs tangle parts found several none laid = absurd (let e = ap length laid in omega (arith, several))
      as_series xs tangle parts found several (more s ss) laid =
          (Series (more s ss), (shallow, parts, several_parts (AreUnordered Rel) X xs parts (tangle_members test strict X xs tangle) found several, series_rise xs tangle parts found, laid))

      as_sides : IsLinked (AreUnordered Rel) X → (parts : List (List ℕ)) → ArePartsOf (AreOrdered Rel) X parts → 2 ≤ length parts → (ss : Shapes) → AreLayouts Rel (suc depth) parts ss → (s : Shape) × IsLayout Rel depth X s
      as_sides linked parts found several ss laid =
          (Sides ss, (shallow, linked, parts, several_parts (AreOrdered Rel) X X parts (λ x. ((λ m. m), (λ m. m))) found several, least_rise (AreOrdered Rel) X sorted parts found, laid))

      parted : (s : Shape) × IsLayout Rel depth X s
      parted =
          let tangle = tangle_exists test strict X sorted in
          let same = tangle_members test strict X tangle.0 tangle.1 in
          let found = parts_exist (AreUnordered Rel) unordered_test unordered_yes unordered_no unordered_turn X sorted tangle.0 (λ z m. (same z).1 m) in
          elim (cases_lt 1 (length found.0)) [
            | inl several ↦ (let laid = layouts_exist Rel (suc depth) each found.0 found.1.sorted in as_series tangle.0 tangle.1 found.0 found.1 (omega arith) laid.0 laid.1)
            | inr single ↦
                let linked = linked_by_one_part (AreUnordered Rel) X tangle.0 found.0 same found.1 (omega arith) in
                let sides = parts_exist (AreOrdered Rel) ordered_test ordered_yes ordered_no ordered_turn X sorted X (λ z m. m) in
                elim (cases_lt 1 (length sides.0)) [
                  | inl several ↦ (let laid = layouts_exist Rel (suc depth) each sides.0 sides.1.sorted in as_sides linked sides.0 sides.1 (omega arith) laid.0 laid.1)
                  | inr one ↦ (Tangle tangle.0, (two, inr (shallow, linked, linked_by_one_part (AreOrdered Rel) X X sides.0 (λ x. ((λ m. m), (λ m. m))) sides.1 (omega arith)), tangle.1))
                ]
          ]

  -- ---- all depths

  pub layout_exists : (levels depth : ℕ) → levels + depth ≡ 64 → (X : List ℕ) → IsStrictlySortedBy nat_cmp X → (s : Shape) × IsLayout Rel depth X s
  layout_exists levels depth e [] sorted = (Series none, refl)
  layout_exists levels depth e (x ∷ []) sorted = (One x, refl)
  layout_exists zero depth e (x ∷ y ∷ zs) sorted = (let tangle = tangle_exists test strict (x ∷ y ∷ zs) sorted in (Tangle tangle.0, (omega arith, inl (omega arith), tangle.1)))
  layout_exists (suc levels) depth e (x ∷ y ∷ zs) sorted = parted (x ∷ y ∷ zs) sorted depth (omega arith) (omega arith) (layout_exists levels (suc depth) (omega arith))
