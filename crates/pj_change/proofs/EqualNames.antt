-- Equal names, points, places and labels.
use Rattle.std.proofs.Common.{◌≡◌, ℕ, Bool, refl, sym, ap, subst, ◌∙◌, true, false, not}
use Rattle.std.specs.Prelude.{nat_eq, Option, Some, None}
use Rattle.std.specs.declared.cmp.Ordering.{Ordering}
use Rattle.std.specs.Cmp.{Equal-is, both_ways}
use Rattle.std.specs.Ordering.{is_eq, nat_cmp, ordering_then}
use Rattle.std.specs.Str.{bytes_eq}
use Rattle.std.proofs.Common.{arith}
use Rattle.std.proofs.lemmas.Cmp.{tied_itself}
use Rattle.std.proofs.lemmas.Map.Text.{is_eq-slice_cmp}
use Rattle.std.proofs.lemmas.Bool.Decides.{nat_tests}
use Rattle.std.proofs.lemmas.Bool.{and_parts}
use Rattle.pj_change.specs.Positions.{same_point, same_place}
use Rattle.pj_change.specs.Context.{is_some_place}
use Rattle.std.specs.declared.cmp.Ordering.TheVariants.{Less, Equal, Greater}
use Rattle.pj_name.specs.declared.name.Name.{Name}
use Rattle.pj_name.specs.Name.{same_name, name_cmp}
use Rattle.pj_name.proofs.Names.{same_name-decides, name_cmp-total}
use Rattle.pj_change.specs.declared.point.Point.{Point}
use Rattle.pj_change.specs.declared.point.Place.{Place}
use Rattle.pj_change.specs.declared.point.Place.TheVariants as placed
use Rattle.pj_change.specs.declared.graph.Label.{Label}
use Rattle.pj_change.specs.declared.graph.Label.TheVariants as label
use Rattle.pj_change.specs.Graph.{point_cmp, place_cmp, label_rank}

pub same_name_is : (a b : Name) → same_name a b ≡ true → a ≡ b
same_name_is a b = (same_name-decides a b).0

pub is_same_name : (a b : Name) → a ≡ b → same_name a b ≡ true
is_same_name a b = (same_name-decides a b).1

pub name_itself : (a : Name) → same_name a a ≡ true
name_itself a = is_same_name a a refl

-- what a test of two names for difference tells
pub equal_names : (a b : Name) → false ≡ not (same_name a b) → a ≡ b
equal_names a b h = same_name_is a b (by_test (same_name a b) h)
  where
    by_test : (t : Bool) → false ≡ not t → t ≡ true
    by_test true h = refl
    by_test false h = absurd (cc)

pub other_names : (a b : Name) → true ≡ not (same_name a b) → a ≡ b → ⊥
other_names a b h e = let same = is_same_name a b e in let g : true ≡ not true = h ∙ ap not same in cc

-- orders of which one decides where the other does not tie where both do
pub both_tie : (a b : Ordering) → ordering_then a b ≡ Equal → (a ≡ Equal) × (b ≡ Equal)
both_tie Less b h = absurd (cc)
both_tie Equal b h = (refl, h)
both_tie Greater b h = absurd (cc)

-- names that the order does not tell apart are one
pub name_tied : (a b : Name) → name_cmp a b ≡ Equal → a ≡ b
name_tied a b e =
    let h : bytes_eq a.bytes b.bytes ≡ true = sym (is_eq-slice_cmp a.bytes b.bytes) ∙ ap is_eq e in
    same_name_is a b h

-- names tie where they are one
pub name_ties : (m n : Name) → is_eq (name_cmp n m) ≡ same_name m n
name_ties m n = both_ways _ _
    (λ e. is_same_name m n (sym (name_tied n m ((Equal-is (name_cmp n m)).0 e))))
    (λ e. ap is_eq (subst (λ (k : Name). name_cmp k m ≡ Equal) (same_name_is m n e) (tied_itself name_cmp-total m)))

pub offset_tied : (m n : ℕ) → nat_cmp m n ≡ Equal → m ≡ n
offset_tied m n e = grind (arith, nat_tests)

-- points that the order does not tell apart are one
pub point_tied : (p q : Point) → point_cmp p q ≡ Equal → p ≡ q
point_tied p q e = go (name_cmp p.change q.change) refl
  where
    go : (o : Ordering) → name_cmp p.change q.change ≡ o → p ≡ q
    go Less h = absurd (let f : point_cmp p q ≡ Less = ap (λ o. ordering_then o (nat_cmp p.offset q.offset)) h in cc)
    go Greater h = absurd (let f : point_cmp p q ≡ Greater = ap (λ o. ordering_then o (nat_cmp p.offset q.offset)) h in cc)
    go Equal h =
        let f : nat_cmp p.offset q.offset ≡ Equal = sym (ap (λ o. ordering_then o (nat_cmp p.offset q.offset)) h) ∙ e in
        let n = name_tied p.change q.change h in
        let k = offset_tied p.offset q.offset f in
        λ i. record { change = n i; offset = k i }

-- the test of equal points
pub same_point_is : (p q : Point) → same_point p q ≡ true → p ≡ q
same_point_is p q e =
    let h = and_parts (same_name p.change q.change) (nat_eq p.offset q.offset) e in
    let n = same_name_is p.change q.change h.0 in
    let k : p.offset ≡ q.offset = nat_eq_is p.offset q.offset h.1 in
    λ i. record { change = n i; offset = k i }
  where
    nat_eq_is : (m n : ℕ) → nat_eq m n ≡ true → m ≡ n
    nat_eq_is m n h = grind (arith, nat_tests)

pub same_point_itself : (p : Point) → same_point p p ≡ true
same_point_itself p = let n : nat_eq p.offset p.offset ≡ true = grind (arith, nat_tests) in rw (name_itself p.change, n) refl

-- ---- places

-- one place is at one point
pub at_is : (p q : Point) → placed.At p ≡ placed.At q → p ≡ q
at_is p q e = cc

-- places that the order does not tell apart are one
pub place_tied : (p q : Place) → place_cmp p q ≡ Equal → p ≡ q
place_tied placed.Root placed.Root e = refl
place_tied placed.Root (placed.At q) e = absurd (cc)
place_tied (placed.At p) placed.Root e = absurd (cc)
place_tied (placed.At p) (placed.At q) e = ap placed.At (point_tied p q e)

-- the test of equal places
pub same_place_is : (p q : Place) → same_place p q ≡ true → p ≡ q
same_place_is placed.Root placed.Root e = refl
same_place_is placed.Root (placed.At q) e = absurd (cc)
same_place_is (placed.At p) placed.Root e = absurd (cc)
same_place_is (placed.At p) (placed.At q) e = ap placed.At (same_point_is p q e)

-- and of a place that was found
pub some_place : (at : Place) (o : Option Place) → is_some_place at o ≡ true → o ≡ Some at
some_place at None e = absurd (cc)
some_place at (Some found) e = ap Some (same_place_is found at e)

-- ---- labels

pub label_tied : (k l : Label) → nat_cmp (label_rank k) (label_rank l) ≡ Equal → k ≡ l
label_tied label.Block label.Block e = refl
label_tied label.Block label.Folder e = absurd (cc)
label_tied label.Block label.Order e = absurd (cc)
label_tied label.Folder label.Block e = absurd (cc)
label_tied label.Folder label.Folder e = refl
label_tied label.Folder label.Order e = absurd (cc)
label_tied label.Order label.Block e = absurd (cc)
label_tied label.Order label.Folder e = absurd (cc)
label_tied label.Order label.Order e = refl
