-- Rows that an order does not tell apart, and the least rows of a source and of a target.
use Rattle.std.proofs.Common.{◌≡◌, ◌∙◌, ap, subst, refl, ℕ, Bool, true, false, not}
use Rattle.std.specs.Ordering.{is_eq, is_ne, is_lt, nat_cmp, ordering_then}
use Rattle.std.specs.declared.cmp.Ordering.{Ordering}
use Rattle.std.specs.declared.cmp.Ordering.TheVariants.{Less, Equal, Greater}
use Rattle.std.specs.Cmp.{Equal-is}
use Rattle.std.proofs.Common.{arith}
use Rattle.std.proofs.lemmas.Bool.Decides.{nat_tests}
use Rattle.std.proofs.lemmas.Cmp.{tied_itself}
use Rattle.pj_name.specs.Name.{name_cmp, no_name}
use Rattle.pj_name.proofs.Names.{no_name-least}
use Rattle.pj_change.specs.declared.point.Point.{Point}
use Rattle.pj_change.specs.declared.point.Place.{Place}
use Rattle.pj_change.specs.declared.point.Place.TheVariants as placed
use Rattle.pj_change.specs.declared.row.EdgeRow.{EdgeRow}
use Rattle.pj_change.specs.Graph.{point_cmp, place_cmp, label_rank}
use Rattle.pj_change.specs.Positions.{same_point}
use Rattle.pj_change.proofs.EqualNames.{name_tied, point_tied, both_tie, place_tied, label_tied, same_point_is, same_point_itself}
use Rattle.pj_change.proofs.Orders.{place_total, point_total}
use Rattle.pj_edges.specs.Orders.{out_cmp, into_cmp, out_row, into_row, same_row, least_point, least_out, least_into}
use Rattle.pj_edges.specs.Totals.{out_total}
use Rattle.pj_edges.specs.Laws.{SameRowIsEqual}

-- ---- ties

-- what a test of two places for difference tells
pub one_place : (p q : Place) → is_ne (place_cmp p q) ≡ false → p ≡ q
one_place p q h = by (place_cmp p q) refl h
  where
    by : (o : Ordering) → place_cmp p q ≡ o → is_ne o ≡ false → p ≡ q
    by Less e n = absurd (cc)
    by Equal e n = place_tied p q e
    by Greater e n = absurd (cc)

pub other_places : (p q : Place) → is_ne (place_cmp p q) ≡ true → p ≡ q → ⊥
other_places p q h e = let g : is_ne (place_cmp p q) ≡ false = ap is_ne (subst (λ x. place_cmp p x ≡ Equal) e (tied_itself place_total p)) in cc

-- and a test of two points
pub one_point : (p q : Point) → false ≡ not (same_point p q) → p ≡ q
one_point p q h = same_point_is p q (by (same_point p q) h)
  where
    by : (t : Bool) → false ≡ not t → t ≡ true
    by true h = refl
    by false h = absurd (cc)

pub other_points : (p q : Point) → true ≡ not (same_point p q) → p ≡ q → ⊥
other_points p q h e = let same : same_point p q ≡ true = subst (λ x. same_point p x ≡ true) e (same_point_itself p) in let g : true ≡ not true = h ∙ ap not same in cc

pub row_tied : (q r : EdgeRow) → out_cmp (out_row q) (out_row r) ≡ Equal → q ≡ r
row_tied q r h =
    let s = both_tie (place_cmp q.source r.source) _ h in
    let t = both_tie (point_cmp q.target r.target) _ s.1 in
    let l = both_tie (nat_cmp (label_rank q.label) (label_rank r.label)) _ t.1 in
    let source = place_tied q.source r.source s.0 in
    let target = point_tied q.target r.target t.0 in
    let label = label_tied q.label r.label l.0 in
    let introducer = name_tied q.introducer r.introducer l.1 in
    λ i. record { source = source i; target = target i; label = label i; introducer = introducer i }

pub same_row_equal : SameRowIsEqual
same_row_equal q r = (λ h. row_tied q r ((Equal-is _).0 h), λ e. subst (λ (s : EdgeRow). same_row q s ≡ true) e (ap is_eq (tied_itself out_total (out_row q))))

turned : (t s x : Ordering) → is_eq (ordering_then t (ordering_then s x)) ≡ is_eq (ordering_then s (ordering_then t x))
turned Less Less x = refl
turned Less Equal x = refl
turned Less Greater x = refl
turned Equal Less x = refl
turned Equal Equal x = refl
turned Equal Greater x = refl
turned Greater Less x = refl
turned Greater Equal x = refl
turned Greater Greater x = refl

-- both orders tell the same rows apart
pub into_same : (q r : EdgeRow) → is_eq (into_cmp (into_row q) (into_row r)) ≡ same_row q r
into_same q r =
    turned (point_cmp q.target r.target) (place_cmp q.source r.source)
    (ordering_then (nat_cmp (label_rank q.label) (label_rank r.label)) (name_cmp q.introducer r.introducer))

-- ---- by the first field

rest_of_out : EdgeRow → EdgeRow → Ordering
rest_of_out q r = ordering_then (point_cmp q.target r.target) (ordering_then (nat_cmp (label_rank q.label) (label_rank r.label)) (name_cmp q.introducer r.introducer))

rest_of_into : EdgeRow → EdgeRow → Ordering
rest_of_into q r = ordering_then (place_cmp q.source r.source) (ordering_then (nat_cmp (label_rank q.label) (label_rank r.label)) (name_cmp q.introducer r.introducer))

pub out_first : (q r : EdgeRow) (o : Ordering) → place_cmp q.source r.source ≡ o → (o ≡ Equal → ⊥) → out_cmp (out_row q) (out_row r) ≡ o
unfolding rest_of_out
out_first q r Less h n = ap (λ c. ordering_then c (rest_of_out q r)) h
out_first q r Equal h n = absurd (n refl)
out_first q r Greater h n = ap (λ c. ordering_then c (rest_of_out q r)) h

pub into_first : (q r : EdgeRow) (o : Ordering) → point_cmp q.target r.target ≡ o → (o ≡ Equal → ⊥) → into_cmp (into_row q) (into_row r) ≡ o
unfolding rest_of_into
into_first q r Less h n = ap (λ c. ordering_then c (rest_of_into q r)) h
into_first q r Equal h n = absurd (n refl)
into_first q r Greater h n = ap (λ c. ordering_then c (rest_of_into q r)) h

-- ---- least rows

not_less_then : (a b : Ordering) → is_lt a ≡ false → is_lt b ≡ false → is_lt (ordering_then a b) ≡ false
not_less_then Less b h k = h
not_less_then Equal b h k = k
not_less_then Greater b h k = refl

zero_least : (n : ℕ) → is_lt (nat_cmp n 0) ≡ false
zero_least n = grind (arith, nat_tests)

point_least : (p : Point) → is_lt (point_cmp p least_point) ≡ false
point_least p = not_less_then (name_cmp p.change no_name) (nat_cmp p.offset 0) (no_name-least p.change) (zero_least p.offset)

rest_least : (q : EdgeRow) → is_lt (ordering_then (nat_cmp (label_rank q.label) 0) (name_cmp q.introducer no_name)) ≡ false
rest_least q = not_less_then (nat_cmp (label_rank q.label) 0) (name_cmp q.introducer no_name) (zero_least (label_rank q.label)) (no_name-least q.introducer)

pub out_least : (source : Place) (q : EdgeRow) → q.source ≡ source → is_lt (out_cmp (out_row q) (out_row (least_out source))) ≡ false
out_least source q e = not_less_then (place_cmp q.source source) _
    (ap is_lt (ap (λ s. place_cmp s source) e ∙ tied_itself place_total source))
    (not_less_then (point_cmp q.target least_point) _ (point_least q.target) (rest_least q))

root_least : (p : Place) → is_lt (place_cmp p placed.Root) ≡ false
root_least placed.Root = refl
root_least (placed.At p) = refl

pub into_least : (target : Point) (q : EdgeRow) → q.target ≡ target → is_lt (into_cmp (into_row q) (into_row (least_into target))) ≡ false
into_least target q e = not_less_then (point_cmp q.target target) _
    (ap is_lt (ap (λ s. point_cmp s target) e ∙ tied_itself point_total target))
    (not_less_then (place_cmp q.source placed.Root) _ (root_least q.source) (rest_least q))
