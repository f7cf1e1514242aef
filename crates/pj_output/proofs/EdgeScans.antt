-- A scan over rows, from the least on.
use Rattle.std.proofs.Common.{◌≡◌, true, false, List, [], ◌∷◌, Some, None, refl, sym, ap, subst}
use Rattle.std.specs.Prelude.{is_some}
use Rattle.std.specs.Ordering.{is_lt}
use Rattle.std.specs.declared.cmp.Ordering.{Ordering}
use Rattle.std.specs.declared.cmp.Ordering.TheVariants.{Less, Equal, Greater}
use Rattle.pj_change.specs.declared.point.Place.{Place}
use Rattle.pj_change.specs.declared.point.Place.TheVariants as placed
use Rattle.pj_change.specs.declared.row.EdgeRow.{EdgeRow}
use Rattle.pj_change.specs.Graph.{place_cmp}
use Rattle.pj_pmap.specs.Pairs.{rest_after, next_of, value_at, IsRising, AllAbove}
use Rattle.pj_pmap.proofs.Order.{less_back}
use Rattle.pj_pmap.proofs.Cuts.{value-above}
use Rattle.pj_pmap.proofs.Walks.{rest_none, rest_some}
use Rattle.pj_rows.specs.declared.values.Here.{Here}
use Rattle.pj_edges.specs.declared.keys.OutRow.{OutRow}
use Rattle.pj_edges.specs.Orders.{out_cmp, out_row, least_out}
use Rattle.pj_edges.specs.Rows.{has_out}
use Rattle.pj_edges.specs.Totals.{out_total}
use Rattle.pj_edges.proofs.RowOrder.{out_least, row_tied, out_first}
use Rattle.pj_output.specs.Scans.{rows_from}

abbrev pub least : EdgeRow
least = least_out placed.Root

-- ---- the first row

-- no row is below the least
above_least : (q : EdgeRow) → out_cmp (out_row q) (out_row least) ≡ Less → ⊥
above_least q e = by q.source refl
  where
    by : (p : Place) → q.source ≡ p → ⊥
    by placed.Root h = (let f = out_least placed.Root q h in let g : is_lt (out_cmp (out_row q) (out_row least)) ≡ true = ap is_lt e in cc)
    by (placed.At p) h =
        let f : out_cmp (out_row q) (out_row least) ≡ Greater = out_first q least Greater (ap (λ s. place_cmp s placed.Root) h) (λ g. absurd (cc)) in
        cc

not_below : (q : EdgeRow) → out_cmp (out_row least) (out_row q) ≡ Greater → ⊥
not_below q e = above_least q (less_back out_total (out_row least) (out_row q) e)

-- the rest behind an equal row
rest_equal : (e : OutRow × Here) (es : List (OutRow × Here)) → out_cmp (out_row least) e.0 ≡ Equal → rest_after out_cmp (out_row least) (e ∷ es) ≡ es
rest_equal e es k = rw k refl

there_first : (e : OutRow × Here) (es : List (OutRow × Here)) → out_cmp (out_row least) e.0 ≡ Equal → has_out (e ∷ es) least ≡ false → ⊥
there_first e es k t = (let yes : has_out (e ∷ es) least ≡ true = rw k refl in cc)

-- what is below all rows is not there
not_there : (e : OutRow × Here) (es : List (OutRow × Here)) → IsRising out_cmp (e ∷ es) → out_cmp (out_row least) e.0 ≡ Less → has_out (e ∷ es) least ≡ true → ⊥
not_there e es rising k t =
    let none : value_at out_cmp (out_row least) (e ∷ es) ≡ None = value-above out_cmp (out_row least) [] (e ∷ es) (all_later e es rising k) in
    let no : has_out (e ∷ es) least ≡ false = ap is_some none in
    cc
  where
    later : (k : OutRow) (l : OutRow) (es : List (OutRow × Here)) → out_cmp k l ≡ Less → AllAbove out_cmp l es → AllAbove out_cmp k es
    later k l [] a h = tt
    later k l (f ∷ fs) a h = (out_total.trans k l f.0 a h.0, later k l fs a h.1)

    all_later : (e : OutRow × Here) (es : List (OutRow × Here)) → IsRising out_cmp (e ∷ es) → out_cmp (out_row least) e.0 ≡ Less → AllAbove out_cmp (out_row least) (e ∷ es)
    all_later e es rising k = (k, later (out_row least) e.0 es k rising.0)

-- where the least row is there, it is the first
pub first_there : (es : List (OutRow × Here)) → IsRising out_cmp es → has_out es least ≡ true → rows_from es (Some least) ≡ es
first_there [] rising h = absurd (cc)
first_there (e ∷ es) rising h = by (out_cmp (out_row least) e.0) refl h
  where
    by : (o : Ordering) → out_cmp (out_row least) e.0 ≡ o → has_out (e ∷ es) least ≡ true → rows_from (e ∷ es) (Some least) ≡ e ∷ es
    by Less k t = absurd (not_there e es rising k t)
    by Equal k t = (let same : least ≡ e.0.row = row_tied least e.0.row k in subst (λ (r : OutRow). (r, record {}) ∷ rest_after out_cmp (out_row least) (e ∷ es) ≡ e ∷ es) (ap out_row (sym same)) (ap (λ l. e ∷ l) (rest_equal e es k)))
    by Greater k t = absurd (not_below e.0.row k)

-- where it is not there, all rows are after it
pub first_after : (es : List (OutRow × Here)) → has_out es least ≡ false → rest_after out_cmp (out_row least) es ≡ es
first_after [] h = refl
first_after (e ∷ es) h = by (out_cmp (out_row least) e.0) refl h
  where
    by : (o : Ordering) → out_cmp (out_row least) e.0 ≡ o → has_out (e ∷ es) least ≡ false → rest_after out_cmp (out_row least) (e ∷ es) ≡ e ∷ es
    by Less k t = rw k refl
    by Equal k t = absurd (there_first e es k t)
    by Greater k t = absurd (not_below e.0.row k)

-- ---- the next row

module _ (all es : List (OutRow × Here)) (same : es ≡ all) (rising : IsRising out_cmp all) (after : EdgeRow) where
  pub scan_ends : next_of out_cmp (out_row after) es ≡ None → [] ≡ rest_after out_cmp (out_row after) all
  scan_ends none = sym (rest_none out_cmp out_total (out_row after) all rising (subst (λ l. next_of out_cmp (out_row after) l ≡ None) same none))

  pub scan_goes : (next : OutRow) (here : Here) → next_of out_cmp (out_row after) es ≡ Some (next, here) → rows_from all (Some next.row) ≡ rest_after out_cmp (out_row after) all
  scan_goes next here is = sym (rest_some out_cmp out_total (out_row after) all (next, here) rising (subst (λ l. next_of out_cmp (out_row after) l ≡ Some (next, here)) same is))
