-- In a list that rises first by a key, what has one key stands together.
use Rattle.std.proofs.Common.{◌≡◌, ℕ, ◌+◌, ◌<◌, ◌≤◌, Bool, true, false, List, length, get_or, take, drop, filter, refl, sym, ap, ◌∙◌, subst, arith, inl, inr, ◌⊎◌}
use Rattle.std.specs.List.{AllWithin}
use Rattle.std.specs.List.Sorted.{IsStrictlySortedBy, IsPartitionedBy, IsPartitionPoint}
use Rattle.std.specs.Cmp.{IsTotalOrder, Equal-is}
use Rattle.std.specs.Ordering.{is_lt, is_eq, ordering_then}
use Rattle.std.specs.declared.cmp.Ordering.{Ordering}
use Rattle.std.specs.declared.cmp.Ordering.TheVariants.{Less, Equal, Greater}
use Rattle.std.proofs.lemmas.Cmp.{alike_right, tied_itself}
use Rattle.std.proofs.lemmas.List.{get_or-drop, length-drop}
use Rattle.pj_change.proofs.OneCover.{less_is}
use Rattle.pj_tree.proofs.SortedLists.{sorted_at, which, filter_front, filter_back}

-- less by the one or equal
pub first_part : (a b : Ordering) → ordering_then a b ≡ Less → (a ≡ Less) ⊎ (a ≡ Equal)
first_part Less b h = inl refl
first_part Equal b h = inr refl
first_part Greater b h = absurd (cc)

not_equal : (o : Ordering) → is_lt o ≡ true → is_eq o ≡ false
not_equal Less h = refl
not_equal Equal h = absurd (cc)
not_equal Greater h = refl

module _ {X K : Type 0} (key : X → K) (cmp : K → K → Ordering) (order : IsTotalOrder cmp) where
  abbrev pub is_before : K → X → Bool
  is_before k x = is_lt (cmp (key x) k)

  abbrev pub is_at : K → X → Bool
  is_at k x = is_eq (cmp (key x) k)

  abbrev IsNotAfter : K → K → Type 0
  IsNotAfter p q = (cmp p q ≡ Less) ⊎ (cmp p q ≡ Equal)

  still_before : (p q r : K) → IsNotAfter p q → is_lt (cmp q r) ≡ true → is_lt (cmp p r) ≡ true
  still_before p q r (inl a) h = ap is_lt (order.trans p q r a (less_is (cmp q r) h))
  still_before p q r (inr a) h = ap is_lt (order.congr p q r a) ∙ h

  between : (p q r : K) → IsNotAfter p q → is_lt (cmp p r) ≡ false → is_eq (cmp q r) ≡ true → is_eq (cmp p r) ≡ true
  between p q r (inl a) low h =
      let same : cmp p q ≡ cmp p r = alike_right order q r p ((Equal-is (cmp q r)).0 h) in
      let g : is_lt (cmp p r) ≡ true = ap is_lt (sym same ∙ a) in
      absurd (let f = sym g ∙ low in cc)
  between p q r (inr a) low h = ap is_eq (order.congr p q r a) ∙ h

  module _ (by : X → X → Ordering) (first : (x y : X) → by x y ≡ Less → IsNotAfter (key x) (key y)) (k : K) (xs : List X) (sorted : IsStrictlySortedBy by xs) where
    not_after : (i j : ℕ) (d : X) → i ≤ j → j < length xs → IsNotAfter (key (get_or xs i d)) (key (get_or xs j d))
    not_after i j d l m = elim (which i j l) [
      | inl low ↦ first (get_or xs i d) (get_or xs j d) (sorted_at by xs i j d sorted low m)
      | inr e ↦ inr (subst (λ n. cmp (key (get_or xs i d)) (key (get_or xs n d)) ≡ Equal) e (tied_itself order (key (get_or xs i d))))
    ]

    -- what is before the key stands first
    pub before_first : IsPartitionedBy (is_before k) xs
    before_first i j d l m h = still_before (key (get_or xs i d)) (key (get_or xs j d)) k (not_after i j d l m) h

    at_first : (n : ℕ) → n ≤ length xs → AllWithin (λ x. is_before k x ≡ false) xs n (length xs) → IsPartitionedBy (is_at k) (drop n xs)
    at_first n within late i j d l m h =
        let long = length-drop n xs in
        let at_j : is_at k (get_or xs (n + j) d) ≡ true = ap (is_at k) (sym (get_or-drop n xs j d)) ∙ h in
        ap (is_at k) (get_or-drop n xs i d)
        ∙ between (key (get_or xs (n + i) d)) (key (get_or xs (n + j) d)) k (not_after (n + i) (n + j) d (omega arith) (omega arith)) (late (n + i) d (omega arith) (omega arith)) at_j

    -- and what is at it stands first in the rest
    pub at_first_in : (rest : List X) (n : ℕ) → rest ≡ drop n xs → n ≤ length xs → AllWithin (λ x. is_before k x ≡ false) xs n (length xs) → IsPartitionedBy (is_at k) rest
    at_first_in rest n e within late = subst (IsPartitionedBy (is_at k)) (sym e) (at_first n within late)

    -- so what has the key is a slice
    pub slice_is : (is : X → Bool) → ((x : X) → is x ≡ is_at k x) → (rest : List X) (start count : ℕ) → rest ≡ drop start xs → start ≤ length xs → count ≤ length rest →
        IsPartitionPoint (λ x. is_before k x ≡ true) (λ x. is_before k x ≡ false) xs start →
        IsPartitionPoint (λ x. is_at k x ≡ true) (λ x. is_at k x ≡ false) rest count →
        filter is xs ≡ take count rest
    slice_is is told rest start count e within inside one two =
        filter_back is xs start (λ n d l m. told (get_or xs n d) ∙ not_equal (cmp (key (get_or xs n d)) k) (one.0 n d l m)) within
        ∙ ap (filter is) (sym e)
        ∙ filter_front is rest count (λ n d l m. told (get_or rest n d) ∙ two.0 n d l m) (λ n d l m. told (get_or rest n d) ∙ two.1 n d l m) inside
