-- The next row behind the last one that could lead to a point, or come from a place.
use Rattle.std.proofs.Common.{◌≡◌, ◌∙◌, sym, ap, subst, refl, true, false, Some, None}
use Rattle.std.specs.Prelude.{◌≢◌}
use Rattle.std.specs.Ordering.{is_lt, nat_cmp, ordering_then}
use Rattle.std.specs.declared.cmp.Ordering.{Ordering}
use Rattle.std.specs.declared.cmp.Ordering.TheVariants.{Less, Equal, Greater}
use Rattle.std.proofs.lemmas.Cmp.{tied_itself}
use Rattle.pj_name.specs.declared.name.Name.{Name}
use Rattle.pj_name.specs.Name.{name_cmp}
use Rattle.pj_name.proofs.Names.{name_cmp-total}
use Rattle.pj_pmap.proofs.Order.{greater_back}
use Rattle.pj_change.specs.declared.point.Point.{Point}
use Rattle.pj_change.specs.declared.point.Place.{Place}
use Rattle.pj_change.specs.declared.graph.Label.{Label}
use Rattle.pj_change.specs.declared.graph.Label.TheVariants as label
use Rattle.pj_change.specs.declared.row.EdgeRow.{EdgeRow}
use Rattle.pj_change.specs.Graph.{point_cmp, place_cmp, label_rank}
use Rattle.pj_change.proofs.Orders.{place_total, point_total}
use Rattle.pj_edges.specs.Orders.{out_cmp, into_cmp, out_row, into_row}
use Rattle.pj_edges.specs.Rows.{Rows, IsNextOut, NoneOut, IsNextInto, NoneInto, IsOutAfter, IsIntoAfter}
use Rattle.pj_view.specs.Ends.{IsNoTarget, IsNextTarget, IsNoSource, IsNextSource}

-- ---- two fields and the rest

less_of : (p t r : Ordering) → p ≡ Equal → r ≢ Less → ordering_then p (ordering_then t r) ≡ Less → t ≡ Less
less_of Less t r e n h = absurd (cc)
less_of Equal Less r e n h = refl
less_of Equal Equal r e n h = absurd (n h)
less_of Equal Greater r e n h = absurd (cc)
less_of Greater t r e n h = absurd (cc)

less_to : (p t r : Ordering) → p ≡ Equal → t ≡ Less → ordering_then p (ordering_then t r) ≡ Less
less_to Less t r e h = absurd (cc)
less_to Equal Less r e h = refl
less_to Equal Equal r e h = absurd (cc)
less_to Equal Greater r e h = absurd (cc)
less_to Greater t r e h = absurd (cc)

not_less : (p t r : Ordering) → p ≡ Equal → is_lt (ordering_then p (ordering_then t r)) ≡ false → t ≢ Less
not_less p t r e h l = (let k : is_lt (ordering_then p (ordering_then t r)) ≡ true = ap is_lt (less_to p t r e l) in cc)

less_is : (o : Ordering) → is_lt o ≡ true → o ≡ Less
less_is Less h = refl
less_is Equal h = absurd (cc)
less_is Greater h = absurd (cc)

same_place : (p q : Place) → q ≡ p → place_cmp p q ≡ Equal
same_place p q e = subst (λ x. place_cmp p x ≡ Equal) (sym e) (tied_itself place_total p)

same_point : (p q : Point) → q ≡ p → point_cmp p q ≡ Equal
same_point p q e = subst (λ x. point_cmp p x ≡ Equal) (sym e) (tied_itself point_total p)

-- ---- the last row

module _ (n : Name) (greatest : (m : Name) → name_cmp m n ≢ Greater) where
  rest : EdgeRow → Ordering
  rest row = ordering_then (nat_cmp (label_rank label.Order) (label_rank row.label)) (name_cmp n row.introducer)

  by_label : (l : Label) (m : Name) → ordering_then (nat_cmp (label_rank label.Order) (label_rank l)) (name_cmp n m) ≢ Less
  by_label label.Block m e = cc
  by_label label.Folder m e = cc
  by_label label.Order m e = greatest m (greater_back name_cmp-total n m e)

  -- no row with the same ends is behind it
  rest_high : (row : EdgeRow) → rest row ≢ Less
  unfolding rest
  rest_high row = by_label row.label row.introducer

  module _ (source : Place) (target : Point) where
    abbrev pub last_row : EdgeRow
    last_row = record { source = source; target = target; label = label.Order; introducer = n }

    behind_target : (row : EdgeRow) → row.source ≡ source → out_cmp (out_row last_row) (out_row row) ≡ Less → point_cmp target row.target ≡ Less
    unfolding rest
    behind_target row e h = less_of (place_cmp source row.source) (point_cmp target row.target) (rest row) (same_place source row.source e) (rest_high row) h

    target_behind : (row : EdgeRow) → row.source ≡ source → point_cmp target row.target ≡ Less → out_cmp (out_row last_row) (out_row row) ≡ Less
    unfolding rest
    target_behind row e h = less_to (place_cmp source row.source) (point_cmp target row.target) (rest row) (same_place source row.source e) h

    behind_source : (row : EdgeRow) → row.target ≡ target → into_cmp (into_row last_row) (into_row row) ≡ Less → place_cmp source row.source ≡ Less
    unfolding rest
    behind_source row e h = less_of (point_cmp target row.target) (place_cmp source row.source) (rest row) (same_point target row.target e) (rest_high row) h

    source_behind : (row : EdgeRow) → row.target ≡ target → place_cmp source row.source ≡ Less → into_cmp (into_row last_row) (into_row row) ≡ Less
    unfolding rest
    source_behind row e h = less_to (point_cmp target row.target) (place_cmp source row.source) (rest row) (same_point target row.target e) h

    module _ (e : Rows) where
      pub no_target : NoneOut e source (IsOutAfter (Some last_row)) → IsNoTarget e source (Some target)
      no_target none row there from above = none row there from (target_behind row from (less_is (point_cmp target row.target) above))

      pub no_source : NoneInto e target (IsIntoAfter (Some last_row)) → IsNoSource e target (Some source)
      no_source none row there to above = none row there to (source_behind row to above)

-- ---- rows of one source, and of one target

other_rest : EdgeRow → EdgeRow → Ordering
other_rest q r = ordering_then (nat_cmp (label_rank q.label) (label_rank r.label)) (name_cmp q.introducer r.introducer)

first_target : (q r : EdgeRow) → q.source ≡ r.source → is_lt (out_cmp (out_row q) (out_row r)) ≡ false → point_cmp q.target r.target ≢ Less
unfolding other_rest
first_target q r e h = not_less (place_cmp q.source r.source) (point_cmp q.target r.target) (other_rest q r) (same_place q.source r.source (sym e)) h

first_source : (q r : EdgeRow) → q.target ≡ r.target → is_lt (into_cmp (into_row q) (into_row r)) ≡ false → place_cmp q.source r.source ≢ Less
unfolding other_rest
first_source q r e h = not_less (point_cmp q.target r.target) (place_cmp q.source r.source) (other_rest q r) (same_point q.target r.target (sym e)) h

module _ (n : Name) (greatest : (m : Name) → name_cmp m n ≢ Greater) (source : Place) (target : Point) (e : Rows) (row : EdgeRow) where
  pub next_target : IsNextOut e source (IsOutAfter (Some (last_row n greatest source target))) row → IsNextTarget e source (Some target) row.target
  next_target k = record {
    row = row;
    there = k.there;
    from = k.of_source;
    to = refl;
    above = ap is_lt (behind_target n greatest source target row k.of_source k.after);
    least = λ q there from above. first_target q row (from ∙ sym k.of_source) (k.first q there from (target_behind n greatest source target q from (less_is (point_cmp target q.target) above)));
  }

  pub next_source : IsNextInto e target (IsIntoAfter (Some (last_row n greatest source target))) row → IsNextSource e target (Some source) row.source
  next_source k = record {
    row = row;
    there = k.there;
    from = refl;
    to = k.of_target;
    above = behind_source n greatest source target row k.of_target k.after;
    least = λ q there to above. first_source q row (to ∙ sym k.of_target) (k.first q there to (source_behind n greatest source target q to above));
  }

module _ (e : Rows) (row : EdgeRow) where
  pub least_target : (source : Place) → IsNextOut e source (IsOutAfter None) row → IsNextTarget e source None row.target
  least_target source k = record {
    row = row;
    there = k.there;
    from = k.of_source;
    to = refl;
    above = refl;
    least = λ q there from above. first_target q row (from ∙ sym k.of_source) (k.first q there from tt);
  }

  pub least_source : (target : Point) → IsNextInto e target (IsIntoAfter None) row → IsNextSource e target None row.source
  least_source target k = record {
    row = row;
    there = k.there;
    from = refl;
    to = k.of_target;
    above = tt;
    least = λ q there to above. first_source q row (to ∙ sym k.of_target) (k.first q there to tt);
  }
