-- A walk over the ranges of a point: how far it has come, and what it finds.
use Rattle.std.proofs.Common.{◌≡◌, ◌∙◌, sym, ap, subst, refl, ◌<◌, ◌≤◌, true, false, ◌⊎◌, inl, inr, List, [], ◌∷◌, length, Option, Some, None, arith}
use Rattle.std.specs.Prelude.{is_some, MatchOption}
use Rattle.std.specs.Ordering.{is_lt, ordering_reverse}
use Rattle.std.specs.Cmp.{IsTotalOrder}
use Rattle.std.specs.declared.cmp.Ordering.{Ordering}
use Rattle.std.specs.declared.cmp.Ordering.TheVariants.{Less, Equal, Greater}
use Rattle.std.proofs.lemmas.Cmp.{alike_right}
use Rattle.pj_name.specs.Name.{name_cmp}
use Rattle.pj_change.specs.declared.point.Point.{Point}
use Rattle.pj_change.proofs.EqualNames.{name_tied}
use Rattle.pj_pmap.specs.Pairs.{value_at, next_of, rest_after}
use Rattle.pj_pmap.proofs.Walks.{rest_within, rest_falls}
use Rattle.pj_rows.specs.declared.values.Here.{Here}
use Rattle.pj_rows.specs.Found.{IsNextFound}
use Rattle.pj_rows.proofs.FoundLemmas.{next_found, none_above}
use Rattle.pj_ranges.specs.declared.range.RangeAt.{RangeAt}
use Rattle.pj_ranges.specs.Units.{range_cmp, IsMeasured}
use Rattle.pj_ranges.specs.Over.{has_range, has_point, AreKept, IsAbove, IsOver, IsNextOver, left_from}
use Rattle.pj_ranges.proofs.RangeOrder.{range_total, less_by_unit, has_it, range_tied}

-- ---- what is left of a rising list

module _ {K V : Type 0} (cmp : K → K → Ordering) (order : IsTotalOrder cmp) where
  -- no more is left after a bound that is not below another
  pub rest_shrinks : (a b : K) → (cmp a b ≡ Less) ⊎ (b ≡ a) → (es : List (K × V)) → length (rest_after cmp b es) ≤ length (rest_after cmp a es)
  rest_shrinks a b (inr same) es = rw same (omega arith)
  rest_shrinks a b (inl low) [] = omega arith
  rest_shrinks a b (inl low) (e ∷ es) = by (rest_shrinks a b (inl low) es) (cmp b e.0) refl
    where
      other : length (rest_after cmp b es) ≤ length (rest_after cmp a es) → (o : Ordering) → cmp a e.0 ≡ o → length (rest_after cmp b es) ≤ length (rest_after cmp a (e ∷ es))
      other rest Less f = let w = rest_within cmp b es in rw f (omega arith)
      other rest Equal f = let w = rest_within cmp b es in rw f (omega arith)
      other rest Greater f = rw f rest

      by : length (rest_after cmp b es) ≤ length (rest_after cmp a es) → (o : Ordering) → cmp b e.0 ≡ o → length (rest_after cmp b (e ∷ es)) ≤ length (rest_after cmp a (e ∷ es))
      by rest Less f = let g : cmp a e.0 ≡ Less = order.trans a b e.0 low f in rw (f, g) (omega arith)
      by rest Equal f = let g : cmp a e.0 ≡ Less = sym (alike_right order b e.0 a f) ∙ low in rw (f, g) (omega arith)
      by rest Greater f = rw f (other rest (cmp a e.0) refl)

-- ---- the walk

-- the answer of a step from a range, or from the beginning
abbrev pub IsStep : List (RangeAt × Here) → Point → Option RangeAt → Option RangeAt → Type 0
IsStep es p after next = MatchOption next ((r : RangeAt) → IsOver es p after r → ⊥) (IsNextOver es p after)

-- a step over a list that is the same
pub step_same : {es now : List (RangeAt × Here)} (p : Point) (after next : Option RangeAt) → now ≡ es → IsStep now p after next → IsStep es p after next
step_same p after next same s = subst (λ xs. IsStep xs p after next) same s

-- a step over a list that is the same leaves less
pub falls_same : {es now : List (RangeAt × Here)} (r : RangeAt) (next : Option RangeAt) → now ≡ es → ((a : RangeAt) → Some r ≡ Some a → left_from now next < left_from now (Some r)) →
    left_from es next < left_from es (Some r)
falls_same r next same falls = subst (λ xs. left_from xs next < left_from xs (Some r)) same (falls r refl)

-- what a look-up in a list that is the same finds
pub next_same : {es now : List (RangeAt × Here)} {found : Option (RangeAt × Here)} (bound : RangeAt) → now ≡ es → next_of range_cmp bound now ≡ found → next_of range_cmp bound es ≡ found
next_same bound same e = ap (next_of range_cmp bound) (sym same) ∙ e

module _ (es : List (RangeAt × Here)) (p : Point) (after : Option RangeAt) where
  -- each range that is sought is above the bound, and each that is above the bound may be
  pub record IsReached (bound : RangeAt) : Type 0 where
    pub owner : bound.owner ≡ p.change
    pub sought : (q : RangeAt) → IsOver es p after q → range_cmp bound q ≡ Less
    pub above : (q : RangeAt) → range_cmp bound q ≡ Less → IsAbove after q
    pub falls : (a : RangeAt) → after ≡ Some a → length (rest_after range_cmp bound es) ≤ length (rest_after range_cmp a es)

module _ (es : List (RangeAt × Here)) (kept : AreKept es) (p : Point) (after : Option RangeAt) where
  reached_after : (a : RangeAt) → after ≡ Some a → a.owner ≡ p.change → IsReached es p after a
  reached_after a e owner = record {
    owner = owner;
    sought = λ q s. subst (λ o. IsAbove o q) e s.above;
    above = λ q h. subst (λ o. IsAbove o q) (sym e) h;
    falls = λ b f. (let g : Some b ≡ Some a = sym f ∙ e in let same : b ≡ a = cc in rw same (omega arith));
  }

  reached_first : (b : RangeAt) → after ≡ None → b.owner ≡ p.change → b.unit ≡ 0 → IsReached es p after b
  reached_first b e owner unit = record {
    owner = owner;
    sought = λ q s.
        let it = has_it q p s.over in
        let m = kept.measured q s.there in
        let some : b.unit < q.unit = (let h = m.high in let i = it.start in let j = it.end in omega arith) in
        less_by_unit b q (owner ∙ sym it.owner) some;
    above = λ q h. subst (λ o. IsAbove o q) (sym e) tt;
    falls = λ a f. absurd (let g : Some a ≡ None = sym f ∙ e in cc);
  }

  pub reached_bound : (b : RangeAt) → b.owner ≡ p.change → ((a : RangeAt) → after ≡ Some a → b ≡ a) → (after ≡ None → b.unit ≡ 0) → IsReached es p after b
  reached_bound b owner same first = by after refl
    where
      by : (o : Option RangeAt) → after ≡ o → IsReached es p after b
      by None e = reached_first b e owner (first e)
      by (Some a) e = reached_after b (e ∙ ap Some (sym (same a e))) owner

  module _ (bound : RangeAt) (so_far : IsReached es p after bound) where
    is_there : {X : Type 0} (o : Option X) → is_some o ≡ true → (x : X) × (o ≡ Some x)
    is_there None e = absurd (cc)
    is_there (Some x) e = (x, refl)

    pub none_over : next_of range_cmp bound es ≡ None → (q : RangeAt) → IsOver es p after q → ⊥
    none_over e q s =
        let at = is_there (value_at range_cmp q es) s.there in
        let low = none_above range_cmp range_total bound es e q at.0 at.1 in
        let c : true ≡ false = sym (ap is_lt (so_far.sought q s)) ∙ low in
        cc

    module _ (r : RangeAt) (v : Here) (e : next_of range_cmp bound es ≡ Some (r, v)) where
      abbrev found : IsNextFound range_cmp bound es (r, v)
      found = next_found range_cmp range_total bound es (r, v) kept.rising e

      pub is_kept : has_range es r ≡ true
      is_kept = ap is_some found.found

      -- a range that is sought is not below
      not_below : (q : RangeAt) → IsOver es p after q → is_lt (range_cmp q r) ≡ false
      not_below q s =
          let at = is_there (value_at range_cmp q es) s.there in
          found.first q at.0 at.1 (so_far.sought q s)

      pub next_over : has_point r p ≡ true → IsNextOver es p after r
      next_over over = record { one = record { there = is_kept; over = over; above = so_far.above r found.above }; first = not_below }

      pub next_falls : (a : RangeAt) → after ≡ Some a → left_from es (Some r) < left_from es after
      next_falls a f =
          let one = rest_falls range_cmp range_total bound es (r, v) kept.rising e in
          let all = so_far.falls a f in
          rw f (omega arith)

      -- less is left after a bound that is not below the next range
      pub walk_falls : (b : RangeAt) → (range_cmp r b ≡ Less) ⊎ (b ≡ r) → length (rest_after range_cmp b es) < length (rest_after range_cmp bound es)
      walk_falls b keeps =
          let one = rest_falls range_cmp range_total bound es (r, v) kept.rising e in
          let less = rest_shrinks range_cmp range_total r b keeps es in
          omega arith

      -- the next range is of another owner
      pub none_of_owner : (r.owner ≡ p.change → ⊥) → (q : RangeAt) → IsOver es p after q → ⊥
      none_of_owner other q s = by (name_cmp bound.owner r.owner) refl
        where
          by : (o : Ordering) → name_cmp bound.owner r.owner ≡ o → ⊥
          by Less f =
              let same : q.owner ≡ bound.owner = (has_it q p s.over).owner ∙ sym so_far.owner in
              let g : name_cmp q.owner r.owner ≡ Less = ap (λ n. name_cmp n r.owner) same ∙ f in
              let h : is_lt (range_cmp q r) ≡ true = rw g refl in
              let c : true ≡ false = sym h ∙ not_below q s in
              cc
          by Equal f = other (sym (name_tied bound.owner r.owner f) ∙ so_far.owner)
          by Greater f =
              let g : range_cmp bound r ≡ Greater = rw f refl in
              let c : Greater ≡ Less = sym g ∙ found.above in
              cc

      -- the walk goes on from a bound behind the next range
      pub reached_past : (has_point r p ≡ true → ⊥) → r.owner ≡ p.change → (b : RangeAt) → b.owner ≡ r.owner → (range_cmp r b ≡ Less) ⊎ (b ≡ r) →
          ((q : RangeAt) → IsMeasured q → has_point q p ≡ true → range_cmp r q ≡ Less → range_cmp b q ≡ Less) → IsReached es p after b
      reached_past not_over owner b same keeps skips = record {
        owner = same ∙ owner;
        sought = λ q s. skips q (kept.measured q s.there) s.over (behind q s (range_cmp q r) refl);
        above = λ q h. so_far.above q (range_total.trans bound r q found.above (kept_above q h keeps));
        falls = λ a f.
            (let one = rest_falls range_cmp range_total bound es (r, v) kept.rising e in
            let all = so_far.falls a f in
            let less = rest_shrinks range_cmp range_total r b keeps es in
            omega arith);
      }
        where
          kept_above : (q : RangeAt) → range_cmp b q ≡ Less → (range_cmp r b ≡ Less) ⊎ (b ≡ r) → range_cmp r q ≡ Less
          kept_above q h (inl low) = range_total.trans r b q low h
          kept_above q h (inr one) = subst (λ x. range_cmp x q ≡ Less) one h

          behind : (q : RangeAt) → (s : IsOver es p after q) → (o : Ordering) → range_cmp q r ≡ o → range_cmp r q ≡ Less
          behind q s Less f = absurd (let c : true ≡ false = sym (ap is_lt f) ∙ not_below q s in cc)
          behind q s Equal f = absurd (not_over (subst (λ x. has_point x p ≡ true) (range_tied q r f) s.over))
          behind q s Greater f = range_total.antisymm r q ∙ ap ordering_reverse f
