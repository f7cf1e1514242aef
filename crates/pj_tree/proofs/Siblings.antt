-- The children of one parent, as lists.
use Rattle.std.proofs.Common.{◌≡◌, ℕ, zero, suc, ◌+◌, ◌<◌, ◌≤◌, Bool, true, false, List, [], ◌∷◌, length, get_or, drop, map, filter, refl, sym, ap, ◌∙◌, subst, arith, cond}
use Rattle.std.specs.List.{AllByRecursion}
use Rattle.std.specs.List.Sorted.{IsStrictlySortedBy}
use Rattle.std.specs.declared.cmp.Ordering.TheVariants.{Less, Equal}
use Rattle.std.specs.Cmp.{Equal-is}
use Rattle.std.proofs.lemmas.Cmp.{tied_itself}
use Rattle.pj_change.specs.declared.point.Place.{Place}
use Rattle.pj_change.specs.Graph.{place_cmp}
use Rattle.pj_change.specs.Children.{child_cmp}
use Rattle.pj_change.proofs.Orders.{place_total}
use Rattle.pj_change.proofs.EqualNames.{place_tied}
use Rattle.pj_tree.specs.declared.pairings.Pairing.{Pairing}
use Rattle.pj_tree.specs.Pairings.{child_of, pairing_cmp, is_in, children_in}
use Rattle.pj_tree.proofs.Ties.{same_place-is_eq}

-- ---- filters

pub filter-le : {X : Type 0} (p : X → Bool) (xs : List X) → length (filter p xs) ≤ length xs
filter-le p [] = omega arith
filter-le {X} p (y ∷ xs) = by (filter-le p xs) (p y)
  where
    by : length (filter p xs) ≤ length xs → (b : Bool) → length (cond b (y ∷ filter p xs) (filter p xs)) ≤ length (y ∷ xs)
    by rest true = omega arith
    by rest false = omega arith

-- ---- children of one parent

in_parent : (parent : Place) (e : Pairing) → is_in parent e ≡ true → e.row.now.parent ≡ parent
in_parent parent e h = place_tied e.row.now.parent parent ((Equal-is (place_cmp e.row.now.parent parent)).0 (sym (same_place-is_eq e.row.now.parent parent) ∙ h))

child_less : (parent : Place) (e f : Pairing) → is_in parent e ≡ true → is_in parent f ≡ true → pairing_cmp e f ≡ Less → child_cmp (child_of e) (child_of f) ≡ Less
child_less parent e f a b low =
    let same : e.row.now.parent ≡ f.row.now.parent = in_parent parent e a ∙ sym (in_parent parent f b) in
    let tied : place_cmp e.row.now.parent f.row.now.parent ≡ Equal = subst (λ p. place_cmp e.row.now.parent p ≡ Equal) same (tied_itself place_total e.row.now.parent) in
    rw tied at low

above : (parent : Place) (e : Pairing) → is_in parent e ≡ true → (es : List Pairing) → AllByRecursion (λ y. pairing_cmp e y ≡ Less) es →
    AllByRecursion (λ c. child_cmp (child_of e) c ≡ Less) (map child_of (filter (is_in parent) es))
above parent e a [] all = tt
above parent e a (f ∷ es) all = by (above parent e a es all.1) (is_in parent f) refl
  where
    by : AllByRecursion (λ c. child_cmp (child_of e) c ≡ Less) (map child_of (filter (is_in parent) es)) → (b : Bool) → is_in parent f ≡ b →
        AllByRecursion (λ c. child_cmp (child_of e) c ≡ Less) (map child_of (cond b (f ∷ filter (is_in parent) es) (filter (is_in parent) es)))
    by rest true b = (child_less parent e f a b all.0, rest)
    by rest false b = rest

pub children_sorted : (parent : Place) (es : List Pairing) → IsStrictlySortedBy pairing_cmp es → IsStrictlySortedBy child_cmp (children_in parent es)
unfolding IsStrictlySortedBy
children_sorted parent [] sorted = tt
children_sorted parent (e ∷ es) sorted = by (children_sorted parent es sorted.1) (is_in parent e) refl
  where
    by : IsStrictlySortedBy child_cmp (children_in parent es) → (b : Bool) → is_in parent e ≡ b →
        IsStrictlySortedBy child_cmp (map child_of (cond b (e ∷ filter (is_in parent) es) (filter (is_in parent) es)))
    by rest true b = (above parent e b es sorted.0, rest)
    by rest false b = rest

-- ---- what is left

pub drop_next : {X : Type 0} (xs : List X) (n : ℕ) (d : X) → n < length xs → drop n xs ≡ get_or xs n d ∷ drop (n + 1) xs
drop_next [] n d l = absurd (omega arith)
drop_next (x ∷ xs) zero d l = refl
drop_next (x ∷ xs) (suc n) d l = let e : suc n + 1 ≡ suc (n + 1) = omega arith in drop_next xs n d (omega arith) ∙ ap (λ m. get_or xs n d ∷ drop m (x ∷ xs)) (sym e)
