-- The numbers of the members of a list.
use Rattle.std.proofs.Common.{◌≡◌, ℕ, zero, suc, List, [], ◌∷◌, ◌++◌, length, refl, sym, ◌∙◌, ap, inl, inr}
use Rattle.std.specs.Prelude.{Contains, ◌⊎◌, Some, slice_get}
use Rattle.std.specs.Cmp.{IsTotalOrder}
use Rattle.std.specs.List.Sorted.{IsStrictlySortedBy}
use Rattle.std.specs.declared.cmp.Ordering.{Ordering}
use Rattle.std.specs.declared.cmp.Ordering.TheVariants.{Less}
use Rattle.std.proofs.lemmas.Option.{same_Some, none-some, slice_get_within, slice_get-get_or, get_or_from_slice_get}
use Rattle.pj_change.proofs.Listings.{not_both}
use Rattle.pj_change.proofs.Members.{each}

pub record HasNumber {X : Type 0} (xs : List X) (x : X) : Type 0 where
  pub number : ℕ
  pub there : slice_get xs number ≡ Some x

-- a member has a number
pub number_of : {X : Type 0} (xs : List X) (x : X) → Contains xs x → HasNumber xs x
number_of xs x m = record { number = m.0; there = slice_get-get_or xs m.0 x m.1 ∙ ap Some m.2 }

-- what has a number is a member
pub numbered_member : {X : Type 0} (xs : List X) (i : ℕ) (x : X) → slice_get xs i ≡ Some x → Contains xs x
numbered_member xs i x e = (i, slice_get_within xs i x e, get_or_from_slice_get xs i x x e)

-- one thing has a number
pub one_at : {X : Type 0} (xs : List X) (i : ℕ) (x y : X) → slice_get xs i ≡ Some x → slice_get xs i ≡ Some y → x ≡ y
one_at xs i x y e f = same_Some x y (sym e ∙ f)

-- and in a list in rising order a thing has one number
module _ {X : Type 0} (cmp : X → X → Ordering) (o : IsTotalOrder cmp) where
  first_apart : (x : X) (xs : List X) → IsStrictlySortedBy cmp (x ∷ xs) → (i : ℕ) → slice_get xs i ≡ Some x → ⊥
  unfolding IsStrictlySortedBy
  first_apart x xs s i e = (let r = each (λ y. cmp x y ≡ Less) xs s.0 x (numbered_member xs i x e) in not_both cmp o x x r r)

  pub one_number : (xs : List X) → IsStrictlySortedBy cmp xs → (i j : ℕ) (x : X) → slice_get xs i ≡ Some x → slice_get xs j ≡ Some x → i ≡ j
  unfolding IsStrictlySortedBy
  one_number [] s i j x e f = absurd (none-some x e)
  one_number (y ∷ ys) s zero zero x e f = refl
  one_number (y ∷ ys) s zero (suc j) x e f = absurd (first_apart y ys s j (f ∙ sym e))
  one_number (y ∷ ys) s (suc i) zero x e f = absurd (first_apart y ys s i (e ∙ sym f))
  one_number (y ∷ ys) s (suc i) (suc j) x e f = ap suc (one_number ys s.1 i j x e f)

-- ---- a list with one more thing

pub at_front : {X : Type 0} (xs ys : List X) (i : ℕ) (x : X) → slice_get xs i ≡ Some x → slice_get (xs ++ ys) i ≡ Some x
at_front [] ys i x e = absurd (none-some x e)
at_front (y ∷ xs) ys zero x e = e
at_front (y ∷ xs) ys (suc i) x e = at_front xs ys i x e

pub at_end : {X : Type 0} (xs : List X) (x : X) → slice_get (xs ++ x ∷ []) (length xs) ≡ Some x
at_end [] x = refl
at_end (y ∷ xs) x = at_end xs x

pub front_or_end : {X : Type 0} (xs : List X) (y : X) (i : ℕ) (x : X) → slice_get (xs ++ y ∷ []) i ≡ Some x → (slice_get xs i ≡ Some x) ⊎ ((i ≡ length xs) × (y ≡ x))
front_or_end [] y zero x e = inr (refl, same_Some y x e)
front_or_end [] y (suc i) x e = absurd (none-some x e)
front_or_end (z ∷ xs) y zero x e = inl e
front_or_end (z ∷ xs) y (suc i) x e = elim (front_or_end xs y i x e) [ inl k ↦ inl k | inr k ↦ inr (ap suc k.0, k.1) ]
