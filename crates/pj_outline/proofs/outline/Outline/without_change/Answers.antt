use Rattle.std.proofs.Common.{arith, ◌∙◌, ap, ◌&&◌, not, ◌∷◌, ◌++◌, refl}
use Rattle.std.specs.List.{list_any}
use Rattle.pj_change.proofs.Members.{middle_member, moved}
use Rattle.pj_change.proofs.DistinctRecords.{lawful_distinct}
use Rattle.pj_cuts.proofs.SetTables.{blocks_where_held, fits_where_context}
use Rattle.pj_edges.specs.Orders.{same_row}
use Rattle.pj_cuts.specs.CutsOf.{all_cut_points}
use Rattle.pj_edges.specs.OwnRows.{rows_of}
use Rattle.pj_outline.proofs.InnerRows.{once_cut_from_inside}
use Rattle.pj_outline.proofs.OutlineChanges.{one_less}
use Rattle.pj_outline.proofs.outline.Outline.without_change.Goals as goal

pub without_change-requires-clause-blocks : goal.without_change-requires-clause-blocks
without_change-requires-clause-blocks g c =
    let r = c.args.«record».now in
    blocks_where_held (c.requires.before ++ r ∷ c.requires.after) c.args.self.cuts c.requires.is.cuts (lawful_distinct (c.requires.before ++ r ∷ c.requires.after) c.requires.lawful) r
    (middle_member c.requires.before c.requires.after r)

pub without_change-requires-clause-after : goal.without_change-requires-clause-after
without_change-requires-clause-after g c = fits_where_context c.requires.before c.args.«record».now (c.requires.lawful c.requires.before c.args.«record».now c.requires.after refl)

pub cut_points-requires : goal.cut_points-requires
cut_points-requires g c = fits_where_context c.requires.before c.args.«record».now (c.requires.lawful c.requires.before c.args.«record».now c.requires.after refl)

pub returns-clause-set : goal.returns-clause-set
returns-clause-set g c before after lawful left is = record {
  cuts = c.in_ok-cuts.ensures.set before after is.cuts;
  edges = one_less before c.args.«record».now after lawful left c.args.self.cuts c.in_ok-cuts.cuts is.cuts (c.in_ok-cuts.ensures.set before after is.cuts) c.in_ok-cuts.ensures.counts
      c.args.self.edges c.in_ok-edges.edges is.edges c.in_ok-inner.inner.items
      (once_cut_from_inside c.in_ok-cuts.cuts c.args.self.cuts (all_cut_points c.args.«record».now) c.in_ok-parts.parts.items c.in_ok-gone.gone.items c.in_ok-inner.inner.items
      (rw c.as_slice-3.ensures.value at c.in_ok-inner.ensures) (rw (c.as_slice.ensures.value, c.in_ok-points.ensures) at c.in_ok-parts.ensures.inside) (rw c.as_slice-2.ensures.value at c.in_ok-gone.ensures.uncut))
      (λ q. (rw (c.as_slice-5.ensures.value, c.in_ok-own.ensures) at c.in_ok-edges.ensures.rows) q
      ∙ ap (λ b. not (list_any (same_row q) (rows_of c.args.«record».now)) && b) ((rw c.as_slice-4.ensures.value at c.in_ok-joined.ensures.rows) q));
}

pub inner_rows-requires : goal.inner_rows-requires
inner_rows-requires g c p m =
    let n = (c.in_ok-gone.ensures.uncut p).0 (moved p c.as_slice-3.ensures.value m) in
    let k = c.in_ok-parts.ensures.inside.only p (moved p c.as_slice-2.ensures.value n.0) in
    omega (arith, k.1.after)
