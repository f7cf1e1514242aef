use Rattle.pj_change.proofs.Members.{moved}
use Rattle.std.proofs.Common.{arith, ◌∙◌, ap, ◌||◌}
use Rattle.std.specs.List.{list_any}
use Rattle.pj_cuts.proofs.SetTables.{free_where_new, fits_where_context}
use Rattle.pj_edges.specs.Orders.{same_row}
use Rattle.pj_cuts.specs.CutsOf.{all_cut_points}
use Rattle.pj_edges.specs.OwnRows.{rows_of}
use Rattle.pj_outline.proofs.InnerRows.{once_cut_then_inside}
use Rattle.pj_outline.proofs.OutlineChanges.{one_more}
use Rattle.pj_outline.proofs.outline.Outline.with_change.Goals as goal

pub with_change-requires-clause-free : goal.with_change-requires-clause-free
with_change-requires-clause-free g c = free_where_new c.requires.list c.args.self.cuts c.requires.is.cuts c.args.«record».now.name c.requires.follows.fresh

pub with_change-requires-clause-after : goal.with_change-requires-clause-after
with_change-requires-clause-after g c = fits_where_context c.requires.list c.args.«record».now c.requires.follows

pub cut_points-requires : goal.cut_points-requires
cut_points-requires g c = fits_where_context c.requires.list c.args.«record».now c.requires.follows

pub returns-clause-set : goal.returns-clause-set
returns-clause-set g c list lawful follows is = record {
  cuts = c.in_ok-cuts.ensures.set list is.cuts;
  edges = one_more list c.args.«record».now lawful follows c.args.self.cuts c.in_ok-cuts.cuts is.cuts (c.in_ok-cuts.ensures.set list is.cuts) c.in_ok-cuts.ensures.counts
      c.args.self.edges c.in_ok-edges.edges is.edges c.in_ok-inner.inner.items
      (once_cut_then_inside c.args.self.cuts c.in_ok-cuts.cuts (all_cut_points c.args.«record».now) c.in_ok-fresh.fresh.items c.in_ok-parts.parts.items c.in_ok-inner.inner.items
      (rw c.as_slice-3.ensures.value at c.in_ok-inner.ensures) (rw (c.as_slice.ensures.value, c.in_ok-points.ensures) at c.in_ok-fresh.ensures.uncut) (rw c.as_slice-2.ensures.value at c.in_ok-parts.ensures.inside))
      (λ q. (rw (c.as_slice-5.ensures.value, c.in_ok-own.ensures) at c.in_ok-edges.ensures.rows) q
      ∙ ap (λ b. list_any (same_row q) (rows_of c.args.«record».now) || b) ((rw c.as_slice-4.ensures.value at c.in_ok-parted.ensures.rows) q));
}

pub inner_rows-requires : goal.inner_rows-requires
inner_rows-requires g c p m = (let k = c.in_ok-parts.ensures.inside.only p (moved p c.as_slice-3.ensures.value m) in omega (arith, k.1.after))
