-- The next row of a source, and of a target.
use Rattle.std.proofs.Common.{◌≡◌, ◌∙◌, sym, ap, refl, true, false, List, Option, Some, None, MatchOption}
use Rattle.std.specs.Prelude.{is_some}
use Rattle.std.specs.Ordering.{is_lt}
use Rattle.std.specs.declared.cmp.Ordering.{Ordering}
use Rattle.std.specs.declared.cmp.Ordering.TheVariants.{Less, Equal, Greater}
use Rattle.pj_change.specs.declared.point.Point.{Point}
use Rattle.pj_change.specs.declared.point.Place.{Place}
use Rattle.pj_change.specs.declared.row.EdgeRow.{EdgeRow}
use Rattle.pj_change.specs.Graph.{point_cmp, place_cmp}
use Rattle.pj_change.proofs.EqualNames.{point_tied, place_tied}
use Rattle.pj_pmap.specs.Pairs.{value_at, next_of}
use Rattle.pj_pmap.proofs.Order.{less_back}
use Rattle.pj_rows.specs.declared.values.Here.{Here}
use Rattle.pj_rows.specs.Keys.{has}
use Rattle.pj_rows.proofs.KeyLemmas.{value_alike}
use Rattle.pj_rows.proofs.FoundLemmas.{next_found, none_above}
use Rattle.pj_edges.specs.declared.keys.OutRow.{OutRow}
use Rattle.pj_edges.specs.declared.keys.IntoRow.{IntoRow}
use Rattle.pj_edges.specs.Orders.{out_cmp, into_cmp, out_row, into_row, least_out, least_into}
use Rattle.pj_edges.specs.Totals.{out_total, into_total}
use Rattle.pj_edges.specs.Rows.{Rows, has_row, HasRows, IsNextOut, NoneOut, IsNextInto, NoneInto}
use Rattle.pj_edges.proofs.RowOrder.{out_first, into_first, out_least, into_least}

found : {K : Type 0} (cmp : K → K → Ordering) (k : K) (es : List (K × Here)) → has cmp k es ≡ true → (v : Here) × (value_at cmp k es ≡ Some v)
found cmp k es h = by (value_at cmp k es) refl h
  where
    by : (v : Option Here) → value_at cmp k es ≡ v → is_some v ≡ true → (v : Here) × (value_at cmp k es ≡ Some v)
    by None e t = absurd (cc)
    by (Some v) e t = (v, e)

no_less : (o : Ordering) → o ≡ Less → is_lt o ≡ false → ⊥
no_less o e h = let l : is_lt o ≡ true = ap is_lt e in cc

not_equal : Less ≡ Equal → ⊥
not_equal e = cc

above_not_equal : Greater ≡ Equal → ⊥
above_not_equal e = cc

module _ (out : List (OutRow × Here)) (into : List (IntoRow × Here)) (is : HasRows out into) where
  abbrev table : Rows
  table = record { out = out; into = into }

  there_into : (q : EdgeRow) → has_row table q ≡ true → has into_cmp (into_row q) into ≡ true
  there_into q h = is.same q ∙ h

  -- ---- by source

  module _ (row : EdgeRow) where
    pub out_none : next_of out_cmp (out_row row) out ≡ None → NoneOut table row.source (λ q. out_cmp (out_row row) (out_row q) ≡ Less)
    out_none e q there of after = let w = found out_cmp (out_row q) out there in no_less _ after (none_above out_cmp out_total (out_row row) out e (out_row q) w.0 w.1)

    module _ (k : OutRow) (v : Here) (e : next_of out_cmp (out_row row) out ≡ Some (k, v)) where
      pub out_other : (k.row.source ≡ row.source → ⊥) → NoneOut table row.source (λ q. out_cmp (out_row row) (out_row q) ≡ Less)
      out_other other q there of after =
          let n = next_found out_cmp out_total (out_row row) out (k, v) is.out_rises e in
          let w = found out_cmp (out_row q) out there in
          by (place_cmp row.source k.row.source) refl n.above (n.first (out_row q) w.0 w.1 after)
        where
          by : (o : Ordering) → place_cmp row.source k.row.source ≡ o → out_cmp (out_row row) k ≡ Less → is_lt (out_cmp (out_row q) k) ≡ false → ⊥
          by Less t above low = no_less _ (out_first q k.row Less (ap (λ s. place_cmp s k.row.source) of ∙ t) not_equal) low
          by Equal t above low = other (sym (place_tied row.source k.row.source t))
          by Greater t above low = let clash : Greater ≡ Less = sym (out_first row k.row Greater t above_not_equal) ∙ above in cc

      pub out_same : k.row.source ≡ row.source → IsNextOut table row.source (λ q. out_cmp (out_row row) (out_row q) ≡ Less) k.row
      out_same of =
          let n = next_found out_cmp out_total (out_row row) out (k, v) is.out_rises e in
          record {
            there = ap is_some n.found;
            of_source = of;
            after = n.above;
            first = λ q there of_q after. let w = found out_cmp (out_row q) out there in n.first (out_row q) w.0 w.1 after;
          }

  -- the least row of a source is its first one
  pub out_at_least : (source : Place) → has out_cmp (out_row (least_out source)) out ≡ true → IsNextOut table source (λ q. Unit {0}) (least_out source)
  out_at_least source there = record { there = there; of_source = refl; after = tt; first = λ q h of u. out_least source q of }

  -- where it is not there, all come after it
  pub out_above_least : (source : Place) → has out_cmp (out_row (least_out source)) out ≡ false → (r : Option EdgeRow) →
      MatchOption r (NoneOut table source (λ q. out_cmp (out_row (least_out source)) (out_row q) ≡ Less)) (λ k. IsNextOut table source (λ q. out_cmp (out_row (least_out source)) (out_row q) ≡ Less) k) →
      MatchOption r (NoneOut table source (λ q. Unit {0})) (λ k. IsNextOut table source (λ q. Unit {0}) k)
  out_above_least source absent r h = by r h
    where
      above : (q : EdgeRow) → has_row table q ≡ true → q.source ≡ source → out_cmp (out_row (least_out source)) (out_row q) ≡ Less
      above q there of = go (out_cmp (out_row (least_out source)) (out_row q)) refl
        where
          go : (o : Ordering) → out_cmp (out_row (least_out source)) (out_row q) ≡ o → o ≡ Less
          go Less t = refl
          go Equal t = let same = ap is_some (value_alike out_cmp out_total (out_row (least_out source)) (out_row q) out t) in absurd (let c : false ≡ true = sym absent ∙ same ∙ there in cc)
          go Greater t = absurd (no_less _ (less_back out_total (out_row (least_out source)) (out_row q) t) (out_least source q of))

      by : (r : Option EdgeRow) →
          MatchOption r (NoneOut table source (λ q. out_cmp (out_row (least_out source)) (out_row q) ≡ Less)) (λ k. IsNextOut table source (λ q. out_cmp (out_row (least_out source)) (out_row q) ≡ Less) k) →
          MatchOption r (NoneOut table source (λ q. Unit {0})) (λ k. IsNextOut table source (λ q. Unit {0}) k)
      by None none = λ q there of u. none q there of (above q there of)
      by (Some k) n = record { there = n.there; of_source = n.of_source; after = tt; first = λ q there of u. n.first q there of (above q there of) }

  -- ---- by target

  module _ (row : EdgeRow) where
    pub into_none : next_of into_cmp (into_row row) into ≡ None → NoneInto table row.target (λ q. into_cmp (into_row row) (into_row q) ≡ Less)
    into_none e q there of after = let w = found into_cmp (into_row q) into (there_into q there) in no_less _ after (none_above into_cmp into_total (into_row row) into e (into_row q) w.0 w.1)

    module _ (k : IntoRow) (v : Here) (e : next_of into_cmp (into_row row) into ≡ Some (k, v)) where
      pub into_other : (k.row.target ≡ row.target → ⊥) → NoneInto table row.target (λ q. into_cmp (into_row row) (into_row q) ≡ Less)
      into_other other q there of after =
          let n = next_found into_cmp into_total (into_row row) into (k, v) is.into_rises e in
          let w = found into_cmp (into_row q) into (there_into q there) in
          by (point_cmp row.target k.row.target) refl n.above (n.first (into_row q) w.0 w.1 after)
        where
          by : (o : Ordering) → point_cmp row.target k.row.target ≡ o → into_cmp (into_row row) k ≡ Less → is_lt (into_cmp (into_row q) k) ≡ false → ⊥
          by Less t above low = no_less _ (into_first q k.row Less (ap (λ s. point_cmp s k.row.target) of ∙ t) not_equal) low
          by Equal t above low = other (sym (point_tied row.target k.row.target t))
          by Greater t above low = let clash : Greater ≡ Less = sym (into_first row k.row Greater t above_not_equal) ∙ above in cc

      pub into_same_target : k.row.target ≡ row.target → IsNextInto table row.target (λ q. into_cmp (into_row row) (into_row q) ≡ Less) k.row
      into_same_target of =
          let n = next_found into_cmp into_total (into_row row) into (k, v) is.into_rises e in
          record {
            there = sym (is.same k.row) ∙ ap is_some n.found;
            of_target = of;
            after = n.above;
            first = λ q there of_q after. let w = found into_cmp (into_row q) into (there_into q there) in n.first (into_row q) w.0 w.1 after;
          }

  pub into_at_least : (target : Point) → has into_cmp (into_row (least_into target)) into ≡ true → IsNextInto table target (λ q. Unit {0}) (least_into target)
  into_at_least target there = record { there = sym (is.same (least_into target)) ∙ there; of_target = refl; after = tt; first = λ q h of u. into_least target q of }

  pub into_above_least : (target : Point) → has into_cmp (into_row (least_into target)) into ≡ false → (r : Option EdgeRow) →
      MatchOption r (NoneInto table target (λ q. into_cmp (into_row (least_into target)) (into_row q) ≡ Less)) (λ k. IsNextInto table target (λ q. into_cmp (into_row (least_into target)) (into_row q) ≡ Less) k) →
      MatchOption r (NoneInto table target (λ q. Unit {0})) (λ k. IsNextInto table target (λ q. Unit {0}) k)
  into_above_least target absent r h = by r h
    where
      above : (q : EdgeRow) → has_row table q ≡ true → q.target ≡ target → into_cmp (into_row (least_into target)) (into_row q) ≡ Less
      above q there of = go (into_cmp (into_row (least_into target)) (into_row q)) refl
        where
          go : (o : Ordering) → into_cmp (into_row (least_into target)) (into_row q) ≡ o → o ≡ Less
          go Less t = refl
          go Equal t = let same = ap is_some (value_alike into_cmp into_total (into_row (least_into target)) (into_row q) into t) in absurd (let c : false ≡ true = sym absent ∙ same ∙ there_into q there in cc)
          go Greater t = absurd (no_less _ (less_back into_total (into_row (least_into target)) (into_row q) t) (into_least target q of))

      by : (r : Option EdgeRow) →
          MatchOption r (NoneInto table target (λ q. into_cmp (into_row (least_into target)) (into_row q) ≡ Less)) (λ k. IsNextInto table target (λ q. into_cmp (into_row (least_into target)) (into_row q) ≡ Less) k) →
          MatchOption r (NoneInto table target (λ q. Unit {0})) (λ k. IsNextInto table target (λ q. Unit {0}) k)
      by None none = λ q there of u. none q there of (above q there of)
      by (Some k) n = record { there = n.there; of_target = n.of_target; after = tt; first = λ q there of u. n.first q there of (above q there of) }
