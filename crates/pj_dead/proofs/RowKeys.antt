-- Rows as the keys of a map.
use Rattle.std.proofs.Common.{◌≡◌, ◌∙◌, sym, ap, subst, refl, inl, inr, Bool, true, false, not, ◌&&◌, ◌||◌, List}
use Rattle.std.specs.Prelude.{Contains, ◌⊎◌}
use Rattle.std.specs.Cmp.{IsTotalOrder}
use Rattle.std.specs.Ordering.{is_eq, ordering_then}
use Rattle.std.specs.declared.cmp.Ordering.{Ordering}
use Rattle.std.specs.declared.cmp.Ordering.TheVariants.{Less, Equal, Greater}
use Rattle.std.proofs.lemmas.Cmp.{then_total, on_total, tied_itself}
use Rattle.pj_change.specs.Graph.{point_cmp}
use Rattle.pj_change.proofs.Members.{any_member, passes}
use Rattle.pj_change.proofs.Orders.{point_total}
use Rattle.pj_change.proofs.EqualNames.{point_tied}
use Rattle.pj_rows.specs.declared.values.Here.{Here}
use Rattle.pj_rows.specs.Keys.{has, is_among}
use Rattle.pj_dead.specs.declared.row.PseudoRow.{PseudoRow}
use Rattle.pj_dead.specs.Pseudo.{row_cmp, HasRow}

pub row_total : IsTotalOrder row_cmp
row_total = then_total (on_total (λ (r : PseudoRow). r.source) point_total) (then_total (on_total (λ (r : PseudoRow). r.target) point_total) (on_total (λ (r : PseudoRow). r.least) point_total))

both_tie : (a b : Ordering) → ordering_then a b ≡ Equal → (a ≡ Equal) × (b ≡ Equal)
both_tie Less b h = absurd (cc)
both_tie Equal b h = (refl, h)
both_tie Greater b h = absurd (cc)

-- rows that the order does not tell apart are one
pub row_tied : (q r : PseudoRow) → row_cmp q r ≡ Equal → q ≡ r
row_tied q r h =
    let s = both_tie (point_cmp q.source r.source) _ h in
    let t = both_tie (point_cmp q.target r.target) _ s.1 in
    let source = point_tied q.source r.source s.0 in
    let target = point_tied q.target r.target t.0 in
    let least = point_tied q.least r.least t.1 in
    λ i. record { source = source i; target = target i; least = least i }

equal_is : (o : Ordering) → is_eq o ≡ true → o ≡ Equal
equal_is Less h = absurd (cc)
equal_is Equal h = refl
equal_is Greater h = absurd (cc)

pub among_member : (q : PseudoRow) (rows : List PseudoRow) → is_among row_cmp q rows ≡ true → Contains rows q
among_member q rows h =
    let k = passes (λ r. is_eq (row_cmp q r)) rows h in
    subst (Contains rows) (sym (row_tied q k.it (equal_is (row_cmp q k.it) k.is))) k.member

pub member_among : (q : PseudoRow) (rows : List PseudoRow) → Contains rows q → is_among row_cmp q rows ≡ true
member_among q rows m = any_member (λ r. is_eq (row_cmp q r)) rows q m (ap is_eq (tied_itself row_total q))

pub among_or_not : (q : PseudoRow) (rows : List PseudoRow) → Contains rows q ⊎ (Contains rows q → ⊥)
among_or_not q rows = by (is_among row_cmp q rows) refl
  where
    by : (b : Bool) → is_among row_cmp q rows ≡ b → Contains rows q ⊎ (Contains rows q → ⊥)
    by true h = inl (among_member q rows h)
    by false h = inr (λ m. (let f : true ≡ false = sym (member_among q rows m) ∙ h in cc))

-- ---- changes of a map

module _ (old new : List (PseudoRow × Here)) (rows : List PseudoRow) where
  pub had_more : ((q : PseudoRow) → has row_cmp q new ≡ (is_among row_cmp q rows || has row_cmp q old)) → (q : PseudoRow) → HasRow new q → Contains rows q ⊎ HasRow old q
  had_more e q h = by (is_among row_cmp q rows) refl
    where
      by : (b : Bool) → is_among row_cmp q rows ≡ b → Contains rows q ⊎ HasRow old q
      by true f = inl (among_member q rows f)
      by false f = inr (sym (ap (λ x. x || has row_cmp q old) f) ∙ sym (e q) ∙ h)

  pub more_made : ((q : PseudoRow) → has row_cmp q new ≡ (is_among row_cmp q rows || has row_cmp q old)) → (q : PseudoRow) → Contains rows q → HasRow new q
  more_made e q m = e q ∙ ap (λ x. x || has row_cmp q old) (member_among q rows m)

  pub more_kept : ((q : PseudoRow) → has row_cmp q new ≡ (is_among row_cmp q rows || has row_cmp q old)) → (q : PseudoRow) → HasRow old q → HasRow new q
  more_kept e q h = e q ∙ by (is_among row_cmp q rows) (has row_cmp q old) h
    where
      by : (b c : Bool) → c ≡ true → (b || c) ≡ true
      by true c f = refl
      by false c f = f

  pub had_left : ((q : PseudoRow) → has row_cmp q new ≡ (not (is_among row_cmp q rows) && has row_cmp q old)) → (q : PseudoRow) → HasRow new q → (Contains rows q → ⊥) × HasRow old q
  had_left e q h = by (is_among row_cmp q rows) refl (sym (e q) ∙ h)
    where
      by : (b : Bool) → is_among row_cmp q rows ≡ b → (not (is_among row_cmp q rows) && has row_cmp q old) ≡ true → (Contains rows q → ⊥) × HasRow old q
      by true f k = absurd (let g : false ≡ true = rw f at k in cc)
      by false f k = (λ m. (let g : true ≡ false = sym (member_among q rows m) ∙ f in cc), rw f at k)

  pub left_kept : ((q : PseudoRow) → has row_cmp q new ≡ (not (is_among row_cmp q rows) && has row_cmp q old)) → (q : PseudoRow) → (Contains rows q → ⊥) → HasRow old q → HasRow new q
  left_kept e q n h = e q ∙ by (is_among row_cmp q rows) refl
    where
      by : (b : Bool) → is_among row_cmp q rows ≡ b → (not (is_among row_cmp q rows) && has row_cmp q old) ≡ true
      by true f = absurd (n (among_member q rows f))
      by false f = rw f h
