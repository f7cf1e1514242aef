-- One more vertex joins the list of its class.
use Rattle.std.proofs.Common.{◌≡◌, ℕ, zero, suc, ◌+◌, ◌<◌, cond, List, [], ◌∷◌, ◌++◌, All, length, get_or, set, map, nat_eq, refl, sym, ◌∙◌, ap, inl, inr, arith}
use Rattle.std.specs.List.{filter, range_with_len}
use Rattle.std.proofs.lemmas.Bool.{cases_eq, cases_Bool, eq-eqb, eqb-true}
use Rattle.std.proofs.lemmas.List.{get_or-set_same, get_or-set_other, get_or-map, map-set, length-set, length-map, append-nil}
use Rattle.std.proofs.lemmas.List.Elements.{filter-append, All-map}
use Rattle.pj_reach.specs.Closure.{Closure, classes, class_at}
use Rattle.pj_marks.specs.Classes.{members_below}
use Rattle.pj_marks.specs.Grouped.{IsGrouped}

-- one number more
range_more : (a n j : ℕ) → a + n ≡ j → range_with_len a (suc n) ≡ range_with_len a n ++ j ∷ []
range_more a zero j e = ap (λ (k : ℕ). k ∷ []) (omega arith)
range_more a (suc n) j e = ap (λ (ks : List ℕ). a ∷ ks) (range_more (a + 1) n j (omega arith))

module _ (r : Closure) (n : ℕ) where
  more : (class : ℕ) → members_below r (n + 1) class ≡ members_below r n class ++ cond (nat_eq (class_at r n) class) (n ∷ []) []
  more class =
      let on : n + 1 ≡ suc n = omega arith in
      ap (λ (k : ℕ). members_below r k class) on ∙ ap (filter (λ at. nat_eq (class_at r at) class)) (range_more 0 n n (omega arith))
      ∙ filter-append (λ at. nat_eq (class_at r at) class) (range_with_len 0 n) (n ∷ [])

  -- its class has one member more
  member_more : (class : ℕ) → class_at r n ≡ class → members_below r (n + 1) class ≡ members_below r n class ++ n ∷ []
  member_more class same = more class ∙ rw (eq-eqb _ _ same) refl

  -- any other class has the members that it had
  members_same : (class : ℕ) → (class_at r n ≡ class → ⊥) → members_below r (n + 1) class ≡ members_below r n class
  members_same class apart = elim (cases_Bool (nat_eq (class_at r n) class)) [
    | inl same ↦ absurd (apart (eqb-true _ _ same))
    | inr other ↦ more class ∙ rw other (append-nil _)
  ]

  pub joined : (groups : List (List ℕ)) (class : ℕ) → class ≡ class_at r n → class < classes r → IsGrouped r n groups
      → IsGrouped r (n + 1) (set groups class (get_or groups class [] ++ n ∷ []))
  joined groups class is_its below so_far = record {
    each = length-set groups _ _ ∙ so_far.each;
    group = λ other is_class. elim (cases_eq class other) [
      | inl same ↦
          let lt : other < length groups = omega (arith, so_far.each, is_class) in
          rw same (get_or-set_same groups other _ [] lt ∙ ap (λ (ms : List ℕ). ms ++ n ∷ []) (so_far.group other is_class) ∙ sym (member_more other (sym is_its ∙ same)))
      | inr apart ↦ get_or-set_other groups class other _ [] (λ same. apart (sym same)) ∙ so_far.group other is_class ∙ sym (members_same other (λ same. apart (is_its ∙ same)))
    ];
  }

  -- the same where the lists stand in values
  pub joined_in : {X : Type 0} (list : X → List ℕ) (xs : List X) (class : ℕ) (x y : X) → class ≡ class_at r n → class < classes r → IsGrouped r n (map list xs)
      → x ≡ get_or xs class x → list y ≡ list x ++ n ∷ [] → IsGrouped r (n + 1) (map list (set xs class y))
  joined_in list xs class x y is_its below so_far read grown =
      let lt : class < length xs = omega (arith, length-map xs list, so_far.each, below) in
      let found : list x ≡ get_or (map list xs) class [] = ap list read ∙ sym (get_or-map list xs class x [] lt) in
      rw (map-set list xs class y, grown, found) (joined (map list xs) class is_its below so_far)

-- lists without a member group no vertex
pub none_grouped : (r : Closure) {X : Type 0} (list : X → List ℕ) (xs : List X) → length xs ≡ classes r → All (λ x. list x ≡ []) xs → IsGrouped r 0 (map list xs)
none_grouped r list xs each empty = record {
  each = length-map xs list ∙ each;
  group = λ class is_class. All-map (λ (group : List ℕ). group ≡ []) list xs empty class [] (omega (arith, length-map xs list, each, is_class));
}
