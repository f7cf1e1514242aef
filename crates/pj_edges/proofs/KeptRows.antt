-- Both lists of a table have the same rows after a change.
use Rattle.std.proofs.Common.{◌≡◌, ◌∙◌, ℕ, sym, ap, not, ◌&&◌, ◌||◌, List, get_or, take, length, ◌+◌, ◌<◌}
use Rattle.std.specs.List.{list_any}
use Rattle.std.proofs.lemmas.List.Folds.{list_any_more}
use Rattle.pj_change.specs.declared.row.EdgeRow.{EdgeRow}
use Rattle.pj_pmap.specs.Pairs.{with_pair, without_key, IsRising}
use Rattle.pj_rows.specs.declared.values.Here.{Here}
use Rattle.pj_rows.proofs.KeyLemmas.{has-with, has-without}
use Rattle.pj_edges.specs.declared.keys.OutRow.{OutRow}
use Rattle.pj_edges.specs.declared.keys.IntoRow.{IntoRow}
use Rattle.pj_edges.specs.Orders.{out_cmp, into_cmp, out_row, into_row, same_row}
use Rattle.pj_edges.specs.Totals.{out_total, into_total}
use Rattle.pj_edges.specs.Rows.{HasRows}
use Rattle.pj_edges.proofs.RowOrder.{into_same}

module _ (out : List (OutRow × Here)) (into : List (IntoRow × Here)) (is : HasRows out into) (row : EdgeRow) where
  pub rows_with : (a b : Here) → IsRising out_cmp (with_pair out_cmp (out_row row) a out) → IsRising into_cmp (with_pair into_cmp (into_row row) b into) →
      HasRows (with_pair out_cmp (out_row row) a out) (with_pair into_cmp (into_row row) b into)
  rows_with a b up down = record {
    out_rises = up;
    into_rises = down;
    same = λ q. has-with into_cmp into_total (into_row q) (into_row row) b into
        ∙ (λ i. into_same q row i || is.same q i)
        ∙ sym (has-with out_cmp out_total (out_row q) (out_row row) a out);
  }

  pub rows_without : IsRising out_cmp (without_key out_cmp (out_row row) out) → IsRising into_cmp (without_key into_cmp (into_row row) into) →
      HasRows (without_key out_cmp (out_row row) out) (without_key into_cmp (into_row row) into)
  rows_without up down = record {
    out_rises = up;
    into_rises = down;
    same = λ q. has-without into_cmp into_total (into_row q) (into_row row) into is.into_rises
        ∙ (λ i. not (into_same q row i) && is.same q i)
        ∙ sym (has-without out_cmp out_total (out_row q) (out_row row) out is.out_rises);
  }

-- one row more among those of a list
pub any_more : (q : EdgeRow) (rows : List EdgeRow) (i : ℕ) (row : EdgeRow) → i < length rows → row ≡ get_or rows i row → list_any (same_row q) (take (i + 1) rows) ≡ (list_any (same_row q) (take i rows) || same_row q row)
any_more q rows i row low is = list_any_more (same_row q) rows i row low ∙ ap (λ r. list_any (same_row q) (take i rows) || same_row q r) (sym is)
