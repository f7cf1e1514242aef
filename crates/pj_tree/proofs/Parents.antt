-- The pairings of one parent stand together.
use Rattle.std.proofs.Common.{◌≡◌, ℕ, ◌+◌, ◌<◌, ◌≤◌, Bool, true, false, List, length, get_or, take, drop, filter, refl, sym, ap, ◌∙◌, subst, arith, inl, inr, ◌⊎◌}
use Rattle.std.specs.List.{AllWithin}
use Rattle.std.specs.List.Sorted.{IsStrictlySortedBy, IsPartitionedBy, IsPartitionPoint}
use Rattle.std.specs.Ordering.{is_lt, is_eq, ordering_then}
use Rattle.std.specs.declared.cmp.Ordering.{Ordering}
use Rattle.std.specs.declared.cmp.Ordering.TheVariants.{Less, Equal, Greater}
use Rattle.std.specs.Cmp.{Equal-is}
use Rattle.std.proofs.lemmas.Cmp.{alike_right, tied_itself}
use Rattle.std.proofs.lemmas.List.{get_or-drop, length-drop}
use Rattle.pj_change.specs.declared.point.Place.{Place}
use Rattle.pj_change.specs.Graph.{place_cmp}
use Rattle.pj_change.proofs.Orders.{place_total}
use Rattle.pj_tree.specs.declared.pairings.Pairing.{Pairing}
use Rattle.pj_tree.specs.Pairings.{pairing_cmp, is_in, pairings_in}
use Rattle.pj_tree.proofs.SortedLists.{sorted_at, which, filter_front, filter_back}
use Rattle.pj_tree.proofs.Ties.{same_place-is_eq}
use Rattle.pj_change.proofs.OneCover.{less_is}

abbrev pub place_of : Pairing → Place
place_of e = e.row.now.parent

abbrev pub is_before : Place → Pairing → Bool
is_before parent e = is_lt (place_cmp (place_of e) parent)

abbrev pub is_at : Place → Pairing → Bool
is_at parent e = is_eq (place_cmp (place_of e) parent)

-- the parent of a pairing is not after that of a later one
abbrev IsNotAfter : Place → Place → Type 0
IsNotAfter p q = (place_cmp p q ≡ Less) ⊎ (place_cmp p q ≡ Equal)

not_after : (xs : List Pairing) (i j : ℕ) (d : Pairing) → IsStrictlySortedBy pairing_cmp xs → i ≤ j → j < length xs → IsNotAfter (place_of (get_or xs i d)) (place_of (get_or xs j d))
not_after xs i j d sorted l m = by (which i j l)
  where
    first : (a b : Ordering) → ordering_then a b ≡ Less → (a ≡ Less) ⊎ (a ≡ Equal)
    first Less b h = inl refl
    first Equal b h = inr refl
    first Greater b h = absurd (cc)

    by : (i < j) ⊎ (i ≡ j) → IsNotAfter (place_of (get_or xs i d)) (place_of (get_or xs j d))
    by (inl low) = first (place_cmp (place_of (get_or xs i d)) (place_of (get_or xs j d))) _ (sorted_at pairing_cmp xs i j d sorted low m)
    by (inr e) = inr (subst (λ k. place_cmp (place_of (get_or xs i d)) (place_of (get_or xs k d)) ≡ Equal) e (tied_itself place_total (place_of (get_or xs i d))))

still_before : (p q r : Place) → IsNotAfter p q → is_lt (place_cmp q r) ≡ true → is_lt (place_cmp p r) ≡ true
still_before p q r (inl a) h = ap is_lt (place_total.trans p q r a (less_is (place_cmp q r) h))
still_before p q r (inr a) h = ap is_lt (place_total.congr p q r a) ∙ h

between : (p q r : Place) → IsNotAfter p q → is_lt (place_cmp p r) ≡ false → is_eq (place_cmp q r) ≡ true → is_eq (place_cmp p r) ≡ true
between p q r (inl a) low h =
    let same : place_cmp p q ≡ place_cmp p r = alike_right place_total q r p ((Equal-is (place_cmp q r)).0 h) in
    let g : is_lt (place_cmp p r) ≡ true = ap is_lt (sym same ∙ a) in
    absurd (let f = sym g ∙ low in cc)
between p q r (inr a) low h = ap is_eq (place_total.congr p q r a) ∙ h

pub before_first : (parent : Place) (xs : List Pairing) → IsStrictlySortedBy pairing_cmp xs → IsPartitionedBy (is_before parent) xs
before_first parent xs sorted i j d l m h = still_before (place_of (get_or xs i d)) (place_of (get_or xs j d)) parent (not_after xs i j d sorted l m) h

-- after those with an earlier parent, those with this parent stand first
pub at_first : (parent : Place) (xs : List Pairing) (n : ℕ) → IsStrictlySortedBy pairing_cmp xs → n ≤ length xs → AllWithin (λ e. is_before parent e ≡ false) xs n (length xs) → IsPartitionedBy (is_at parent) (drop n xs)
at_first parent xs n sorted within late i j d l m h =
    let long = length-drop n xs in
    let at_j : is_at parent (get_or xs (n + j) d) ≡ true = ap (is_at parent) (sym (get_or-drop n xs j d)) ∙ h in
    ap (is_at parent) (get_or-drop n xs i d)
    ∙ between (place_of (get_or xs (n + i) d)) (place_of (get_or xs (n + j) d)) parent (not_after xs (n + i) (n + j) d sorted (omega arith) (omega arith)) (late (n + i) d (omega arith) (omega arith)) at_j

pub at_first_in : (parent : Place) (xs rest : List Pairing) (n : ℕ) → rest ≡ drop n xs → IsStrictlySortedBy pairing_cmp xs → n ≤ length xs → AllWithin (λ e. is_before parent e ≡ false) xs n (length xs) → IsPartitionedBy (is_at parent) rest
at_first_in parent xs rest n e sorted within late = subst (IsPartitionedBy (is_at parent)) (sym e) (at_first parent xs n sorted within late)

-- the pairings of the parent are a slice
pub pairings_are : (parent : Place) (xs rest : List Pairing) (start count : ℕ) → rest ≡ drop start xs → start ≤ length xs → count ≤ length rest →
    IsPartitionPoint (λ e. is_before parent e ≡ true) (λ e. is_before parent e ≡ false) xs start →
    IsPartitionPoint (λ e. is_at parent e ≡ true) (λ e. is_at parent e ≡ false) rest count →
    pairings_in parent xs ≡ take count rest
pairings_are parent xs rest start count e within inside first second =
    filter_back (is_in parent) xs start (λ k d l m. same_place-is_eq (place_of (get_or xs k d)) parent ∙ not_equal (place_cmp (place_of (get_or xs k d)) parent) (first.0 k d l m)) within
    ∙ ap (filter (is_in parent)) (sym e)
    ∙ filter_front (is_in parent) rest count (λ k d l m. same_place-is_eq (place_of (get_or rest k d)) parent ∙ second.0 k d l m)
    (λ k d l m. same_place-is_eq (place_of (get_or rest k d)) parent ∙ second.1 k d l m) inside
  where
    not_equal : (o : Ordering) → is_lt o ≡ true → is_eq o ≡ false
    not_equal Less h = refl
    not_equal Equal h = absurd (cc)
    not_equal Greater h = refl
