-- Laws of what was given for the items of a list, each with the number of its item.
use Rattle.std.proofs.Common.{◌≡◌, ℕ, zero, suc, ◌<◌, List, [], ◌∷◌, ◌++◌, length, set, get_or, subst, sym, inl, inr, arith, Some}
use Rattle.std.specs.Prelude.{Option, Contains, IfSome}
use Rattle.std.specs.List.{AllZip}
use Rattle.std.proofs.lemmas.List.Elements.{Contains-append_cases, Contains-append_left, Contains-append_right}
use Rattle.pj_output.specs.Gives.{IsGivenFor, AreGivenFor, IsGivenIfSome}
use Rattle.pj_change.proofs.Members.{no_member, uncons, first_member}
use Rattle.pj_output.proofs.CallsInOrder.{zipped_at, zipped_length}

module _ {X Y : Type 0} (P : X → Y → Type 0) (xs : List X) where
  pub none_given : (zs : List (ℕ × Y)) → zs ≡ [] → AreGivenFor P xs zs
  none_given zs none given m = absurd (no_member given (subst (λ ys. Contains ys given) none m))

  -- what two threads gave
  pub given_by_both : (one other both : List (ℕ × Y)) → both ≡ one ++ other → AreGivenFor P xs one → AreGivenFor P xs other → AreGivenFor P xs both
  given_by_both one other both grown h k given m =
      elim (Contains-append_cases one other given (subst (λ zs. Contains zs given) grown m)) [ inl n ↦ h given n | inr n ↦ k given n ]

  -- one more
  pub given_more : (old new : List (ℕ × Y)) (given : ℕ × Y) → new ≡ old ++ given ∷ [] → AreGivenFor P xs old → IsGivenFor P xs given → AreGivenFor P xs new
  given_more old new given grown h is =
      given_by_both old (given ∷ []) new grown h (λ z m. elim (uncons given [] z m) [ inl same ↦ subst (IsGivenFor P xs) same is | inr n ↦ absurd (no_member z n) ])

  -- what is left without the last
  pub given_less : (old left : List (ℕ × Y)) (given : ℕ × Y) → old ≡ left ++ given ∷ [] → AreGivenFor P xs old → AreGivenFor P xs left
  given_less old left given parted h z m = h z (subst (λ zs. Contains zs z) (sym parted) (Contains-append_left left (given ∷ []) z m))

  pub last_given : (old left : List (ℕ × Y)) (given : ℕ × Y) → old ≡ left ++ given ∷ [] → AreGivenFor P xs old → IsGivenFor P xs given
  last_given old left given parted h = h given (subst (λ zs. Contains zs given) (sym parted) (Contains-append_right left (given ∷ []) given (first_member given [])))

module _ {X Z : Type 0} (Q : X → Z → Type 0) where
  -- another thing in one place
  pub zipped_set : (xs : List X) (zs : List Z) (i : ℕ) (x : X) (z : Z) → i < length xs → get_or xs i x ≡ x → AllZip Q xs zs → Q x z → AllZip Q xs (set zs i z)
  zipped_set [] zs i x z low is h q = absurd (omega (arith, low))
  zipped_set (v ∷ xs) [] i x z low is h q = absurd h
  zipped_set (v ∷ xs) (w ∷ zs) zero x z low is h q = (subst (λ u. Q u z) (sym is) q, h.1)
  zipped_set (v ∷ xs) (w ∷ zs) (suc i) x z low is h q = (h.0, zipped_set xs zs i x z (omega (arith, low)) is h.1 q)

module _ {X Y : Type 0} (P : X → Y → Type 0) (xs : List X) (places : List (Option Y)) (h : AllZip (IsGivenIfSome P) xs places) where
  -- what was given in its place
  pub placed_more : (given : ℕ × Y) → IsGivenFor P xs given → AllZip (IsGivenIfSome P) xs (set places given.0 (Some given.1))
  placed_more given is =
      zipped_set (IsGivenIfSome P) xs places given.0 is.0 (Some given.1) is.1 is.2 h is.3

  pub place_within : (given : ℕ × Y) → IsGivenFor P xs given → given.0 < length places
  place_within given is = omega (arith, zipped_length (IsGivenIfSome P) xs places h, is.1)

  -- what stands in the place of an item is of this item
  pub place_given : (i : ℕ) (x : X) (place : Option Y) (y : Y) → i < length xs → get_or xs i x ≡ x → place ≡ get_or places i place → place ≡ Some y → P x y
  place_given i x place y low is there some =
      let at : IfSome place (P x) = subst (λ z. IfSome z (P x)) (sym there) (subst (λ u. IfSome (get_or places i place) (P u)) is (zipped_at (IsGivenIfSome P) xs places i x place h low)) in
      subst (λ z. IfSome z (P x)) some at
