-- Each set has a tangle, in which no class stands after one that it is before.
use Rattle.std.proofs.Common.{◌≡◌, ℕ, zero, suc, ◌≤◌, Bool, true, false, List, [], ◌∷◌, length, nat_eq, refl, sym, ◌∙◌, subst, inl, inr, arith}
use Rattle.std.specs.Prelude.{Contains, IsTrue, filter, not, ◌↔◌}
use Rattle.std.specs.List.{list_any}
use Rattle.std.specs.Ordering.{nat_cmp}
use Rattle.std.specs.List.Sorted.{IsStrictlySortedBy}
use Rattle.std.proofs.lemmas.Bool.{cases_eq, false_from_ne_true, not-true}
use Rattle.std.proofs.lemmas.List.Elements.{Contains-get_or}
use Rattle.std.proofs.lemmas.List.Kept.{IsStrictlySortedBy-filter}
use Rattle.pj_change.specs.Layout.{IsStrictOrder, IsFree, IsTangle}
use Rattle.pj_change.proofs.Members.{uncons, first_member, later_member, no_member, moved, none_member, none_passes}
use Rattle.pj_layout.specs.Parts.{Precedes}
use Rattle.pj_layout.proofs.Filters.{filtered_member, member_filtered, shorter, is_not, itself}
use Rattle.pj_layout.proofs.RisingParts.{first_least}
use Rattle.pj_layout.proofs.Taking.{some_free, without}

module _ (test : ℕ → ℕ → Bool) (strict : IsStrictOrder (λ x y. IsTrue (test x y))) where
  -- no member is before the class
  abbrev is_free : List ℕ → ℕ → Bool
  is_free X x = not (list_any (λ y. test y x) X)

  told : (X : List ℕ) (x : ℕ) → IsFree (λ x y. IsTrue (test x y)) X x → is_free X x ≡ true
  told X x f = (let none : list_any (λ y. test y x) X ≡ false = none_passes (λ y. test y x) X (λ y m. false_from_ne_true (test y x) (λ e. f.first y m e)) in rw none refl)

  tells : (X : List ℕ) (x : ℕ) → Contains X x → is_free X x ≡ true → IsFree (λ x y. IsTrue (test x y)) X x
  tells X x m e = record { member = m; first = λ y n b. (let none : test y x ≡ false = none_member (λ z. test z x) X y (not-true (list_any (λ z. test z x) X) e) n in let t : ◌≡◌ {A = Bool} true false = sym (is_true b) ∙ none in (cc)) }
    where
      is_true : {b : Bool} → IsTrue b → b ≡ true
      is_true h = h

  record HasLeast (X : List ℕ) : Type 0 where
    class : ℕ
    free : IsFree (λ x y. IsTrue (test x y)) X class
    least : (y : ℕ) → IsFree (λ x y. IsTrue (test x y)) X y → class ≤ y

  least_free : (x : ℕ) (xs : List ℕ) → IsStrictlySortedBy nat_cmp (x ∷ xs) → HasLeast (x ∷ xs)
  least_free x xs sorted = first (filter (is_free (x ∷ xs)) (x ∷ xs)) refl
    where
      first : (frees : List ℕ) → filter (is_free (x ∷ xs)) (x ∷ xs) ≡ frees → HasLeast (x ∷ xs)
      first [] e = absurd (
          let f = some_free test strict x xs in
          no_member f.class (moved f.class e (filtered_member (is_free (x ∷ xs)) (x ∷ xs) f.class f.free.member (told (x ∷ xs) f.class f.free)))
          )
      first (y ∷ ys) e =
          let m = member_filtered (is_free (x ∷ xs)) (x ∷ xs) y (moved y (sym e) (first_member y ys)) in
          let rise : IsStrictlySortedBy nat_cmp (y ∷ ys) = subst (IsStrictlySortedBy nat_cmp) e (IsStrictlySortedBy-filter nat_cmp (is_free (x ∷ xs)) (x ∷ xs) sorted) in
          record { class = y; free = tells (x ∷ xs) y m.0 m.1; least = λ z f. first_least y ys rise z (moved z e (filtered_member (is_free (x ∷ xs)) (x ∷ xs) z f.member (told (x ∷ xs) z f))) }

  tangle_within : (n : ℕ) (X : List ℕ) → length X ≤ n → IsStrictlySortedBy nat_cmp X → (xs : List ℕ) × IsTangle (λ x y. IsTrue (test x y)) X xs
  tangle_within n [] short sorted = ([], refl)
  tangle_within zero (x ∷ xs) short sorted = absurd (omega arith)
  tangle_within (suc n) (x ∷ xs) short sorted =
      let f = least_free x xs sorted in
      let fewer = shorter (λ y. not (nat_eq f.class y)) (x ∷ xs) f.class f.free.member (itself f.class) in
      let rest = tangle_within n (without f.class (x ∷ xs)) (omega arith) (IsStrictlySortedBy-filter nat_cmp (λ y. not (nat_eq f.class y)) (x ∷ xs) sorted) in
      (f.class ∷ rest.0, (f.free, f.least, rest.1))

  pub tangle_exists : (X : List ℕ) → IsStrictlySortedBy nat_cmp X → (xs : List ℕ) × IsTangle (λ x y. IsTrue (test x y)) X xs
  tangle_exists X sorted = tangle_within (length X) X (omega arith) sorted

  -- a tangle has the members of its set
  pub tangle_members : (X xs : List ℕ) → IsTangle (λ x y. IsTrue (test x y)) X xs → (z : ℕ) → Contains X z ↔ Contains xs z
  tangle_members X [] t z = ((λ m. moved z t m), (λ m. moved z (sym t) m))
  tangle_members X (x ∷ xs) t z = (there (tangle_members (without x X) xs t.2 z), back (tangle_members (without x X) xs t.2 z))
    where
      there : Contains (without x X) z ↔ Contains xs z → Contains X z → Contains (x ∷ xs) z
      there rest m = elim (cases_eq x z) [
        | inl e ↦ subst (λ w. Contains (x ∷ xs) w) e (first_member x xs)
        | inr n ↦ later_member x xs z (rest.0 (filtered_member (λ y. not (nat_eq x y)) X z m (is_not x z n)))
      ]

      back : Contains (without x X) z ↔ Contains xs z → Contains (x ∷ xs) z → Contains X z
      back rest m = elim (uncons x xs z m) [
        | inl e ↦ subst (λ w. Contains X w) e t.0.member
        | inr n ↦ (member_filtered (λ y. not (nat_eq x y)) X z (rest.1 n)).0
      ]

  -- and no class in it stands after one that it is before
  pub tangle_forward : (X xs : List ℕ) → IsTangle (λ x y. IsTrue (test x y)) X xs → (x y : ℕ) → Precedes xs x y → IsTrue (test y x) → ⊥
  tangle_forward X [] t x y (i, j, low, high, x_at, y_at) b = omega arith
  tangle_forward X (w ∷ xs) t x y (zero, zero, low, high, x_at, y_at) b = omega arith
  tangle_forward X (w ∷ xs) t x y (zero, suc j, low, high, x_at, y_at) b =
      let m : Contains xs y = subst (λ z. Contains xs z) y_at (Contains-get_or xs j 0 (omega arith)) in
      let there = (member_filtered (λ z. not (nat_eq w z)) X y ((tangle_members (without w X) xs t.2 y).1 m)).0 in
      t.0.first y there (subst (λ z. IsTrue (test y z)) (sym x_at) b)
  tangle_forward X (w ∷ xs) t x y (suc i, zero, low, high, x_at, y_at) b = omega arith
  tangle_forward X (w ∷ xs) t x y (suc i, suc j, low, high, x_at, y_at) b = tangle_forward (without w X) xs t.2 x y (i, j, omega arith, omega arith, x_at, y_at) b
