-- A list in order is known by its members.
use Rattle.std.proofs.Common.{◌≡◌, suc, List, [], ◌∷◌, refl, sym, ◌∙◌, ap, subst, inl, inr, arith}
use Rattle.std.specs.Prelude.{Contains, ◌⊎◌, AllPairs}
use Rattle.std.specs.List.{dedup}
use Rattle.std.specs.List.Sorted.{IsPermutation, IsSorted, IsStrictlySortedBy}
use Rattle.std.specs.Cmp.{Equal-is, IsTotalOrder}
use Rattle.std.specs.declared.cmp.Ordering.{Ordering}
use Rattle.std.specs.declared.cmp.Ordering.TheVariants.{Less, Equal, Greater}
use Rattle.std.specs.Ordering.{eq_by_cmp, ordering_reverse}
use Rattle.std.proofs.lemmas.Cmp.{eq_by_cmp_equiv}
use Rattle.std.proofs.lemmas.List.Kept.{Any-dedup, Contains-from_dedup, IsStrictlySortedBy-dedup}
use Rattle.std.proofs.lemmas.List.Sorted.{Contains-permutation, IsPermutation-sym}
use Rattle.pj_change.specs.Graph.{Lists}
use Rattle.pj_change.proofs.Members.{uncons, first_member, later_member, no_member, each}

-- each member is related to each later one
abbrev pub IsRelated : {X : Type 0} → (X → X → Type 0) → List X → Type 0
IsRelated R [] = Unit {0}
IsRelated R (x ∷ xs) = ((y : _) → Contains xs y → R x y) × IsRelated R xs

-- two related lists with the same members are one, where nothing is related both ways
pub same_related : {X : Type 0} (R : X → X → Type 0) (xs ys : List X) →
    ((x y : X) → Contains xs x → Contains xs y → R x y → R y x → ⊥) → IsRelated R xs → IsRelated R ys →
    ((x : X) → Contains xs x → Contains ys x) → ((x : X) → Contains ys x → Contains xs x) → xs ≡ ys
same_related R [] [] apart a b there back = refl
same_related R [] (y ∷ ys) apart a b there back = absurd (no_member y (back y (first_member y ys)))
same_related R (x ∷ xs) [] apart a b there back = absurd (no_member x (there x (first_member x xs)))
same_related {X} R (x ∷ xs) (y ∷ ys) apart a b there back =
    let e : x ≡ y = heads (uncons y ys x (there x (first_member x xs))) (uncons x xs y (back y (first_member y ys))) in
    let s : xs ≡ ys = same_related R xs ys (λ u v m n. apart u v (later_member x xs u m) (later_member x xs v n)) a.1 b.1 (forth e) (back_on e) in
    λ i. e i ∷ s i
  where
    at_y : Contains (x ∷ xs) y
    at_y = back y (first_member y ys)

    heads : (y ≡ x) ⊎ Contains ys x → (x ≡ y) ⊎ Contains xs y → x ≡ y
    heads (inl e) k = sym e
    heads (inr m) (inl e) = e
    heads (inr m) (inr n) = absurd (apart x y (first_member x xs) at_y (a.0 y n) (b.0 x m))

    itself : R x x → ⊥
    itself r = apart x x (first_member x xs) (first_member x xs) r r

    forth : x ≡ y → (z : X) → Contains xs z → Contains ys z
    forth e z m = elim (uncons y ys z (there z (later_member x xs z m))) [
      | inl h ↦ absurd (itself (subst (λ w. R x w) (sym (e ∙ h)) (a.0 z m)))
      | inr n ↦ n
    ]

    back_on : x ≡ y → (z : X) → Contains ys z → Contains xs z
    back_on e z m = elim (uncons x xs z (back z (later_member y ys z m))) [
      | inl h ↦ absurd (let r : R y z = b.0 z m in itself (subst (λ w. R w w) (sym e) (subst (λ w. R y w) (sym h ∙ e) r)))
      | inr n ↦ n
    ]

-- ---- the two forms of std

related_sorted : {X : Type 0} (cmp : X → X → Ordering) (xs : List X) → IsStrictlySortedBy cmp xs → IsRelated (λ x y. cmp x y ≡ Less) xs
unfolding IsStrictlySortedBy
related_sorted cmp [] s = tt
related_sorted cmp (x ∷ xs) s = (λ y m. each (λ y. cmp x y ≡ Less) xs s.0 y m, related_sorted cmp xs s.1)

pub related_pairs : {X : Type 0} (R : X → X → Type 0) (xs : List X) → AllPairs R xs → IsRelated R xs
related_pairs R [] a = tt
related_pairs {X} R (x ∷ xs) a = (first, related_pairs R xs (λ i j d l h. a (suc i) (suc j) d (omega arith) (omega arith)))
  where
    first : (y : X) → Contains xs y → R x y
    first y m = subst (λ z. R x z) m.2 (a 0 (suc m.0) y (omega arith) (omega (arith, m.1)))

-- ---- lists in order

pub not_both : {X : Type 0} (cmp : X → X → Ordering) → IsTotalOrder cmp → (x y : X) → cmp x y ≡ Less → cmp y x ≡ Less → ⊥
not_both cmp o x y a b = (let h = o.antisymm x y in let g : ordering_reverse (cmp y x) ≡ Greater = ap ordering_reverse b in cc)

pub same_sorted : {X : Type 0} (cmp : X → X → Ordering) → IsTotalOrder cmp → (xs ys : List X) → IsStrictlySortedBy cmp xs → IsStrictlySortedBy cmp ys →
    ((x : X) → Contains xs x → Contains ys x) → ((x : X) → Contains ys x → Contains xs x) → xs ≡ ys
same_sorted cmp o xs ys a b there back =
    same_related (λ x y. cmp x y ≡ Less) xs ys (λ x y m n r s. not_both cmp o x y r s) (related_sorted cmp xs a) (related_sorted cmp ys b) there back

-- at most one list has in order just the things of which P holds
pub one_list : {X : Type 0} (cmp : X → X → Ordering) → IsTotalOrder cmp → (P Q : X → Type 0) → ((x : X) → P x → Q x) → ((x : X) → Q x → P x) →
    (xs ys : List X) → Lists cmp P xs → Lists cmp Q ys → xs ≡ ys
one_list cmp o P Q there back xs ys a b =
    same_sorted cmp o xs ys a.sorted b.sorted (λ x m. b.all x (there x (a.only x m))) (λ x m. a.all x (back x (b.only x m)))

-- the list of what two tests say alike
pub same_listing : {X : Type 0} (cmp : X → X → Ordering) (P Q : X → Type 0) → ((x : X) → P x → Q x) → ((x : X) → Q x → P x) → (xs : List X) → Lists cmp P xs → Lists cmp Q xs
same_listing cmp P Q there back xs a = record { sorted = a.sorted; only = λ x m. there x (a.only x m); all = λ x q. a.all x (back x q) }

-- ---- a list that is sorted, and in which of things that the order does not tell apart one is kept

-- the listing of a list's members, where those that the order does not tell apart are equal
pub listed : {X : Type 0} (cmp : X → X → Ordering) → IsTotalOrder cmp → (old sorted new : List X) →
    ((x y : X) → Contains old x → Contains old y → cmp x y ≡ Equal → x ≡ y) →
    IsPermutation old sorted → IsSorted cmp sorted → new ≡ dedup (eq_by_cmp cmp) sorted → Lists cmp (Contains old) new
listed {X} cmp o old sorted new ties moved up kept = record {
  sorted = subst (λ l. IsStrictlySortedBy cmp l) (sym kept) (IsStrictlySortedBy-dedup o (λ x y. refl) sorted up);
  only = λ x m. from_sorted x (Contains-from_dedup (eq_by_cmp cmp) sorted x (subst (λ l. Contains l x) kept m));
  all = λ x m. subst (λ l. Contains l x) (sym kept) (stays x m);
}
  where
    from_sorted : (x : X) → Contains sorted x → Contains old x
    from_sorted x m = Contains-permutation sorted old x (IsPermutation-sym old sorted moved) m

    stays : (x : X) → Contains old x → Contains (dedup (eq_by_cmp cmp) sorted) x
    stays x m =
        let (k, y, low, at, same) = Any-dedup (eq_by_cmp_equiv o) sorted x (Contains-permutation old sorted x moved m) in
        let there : Contains (dedup (eq_by_cmp cmp) sorted) y = (k, low, at) in
        let e : x ≡ y = ties x y m (from_sorted y (Contains-from_dedup (eq_by_cmp cmp) sorted y there)) ((Equal-is (cmp x y)).0 same) in
        subst (λ z. Contains (dedup (eq_by_cmp cmp) sorted) z) (sym e) there
