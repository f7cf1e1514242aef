use Rattle.std.proofs.Common.{◌≡◌, ◌∙◌, ◌&&◌, not, List, sym, ap, arith, take}
use Rattle.std.specs.List.{list_any}
use Rattle.std.proofs.lemmas.List.{take_all}
use Rattle.pj_rows.proofs.KeyLemmas.{one_less}
use Rattle.pj_change.specs.declared.row.EdgeRow.{EdgeRow}
use Rattle.pj_edges.specs.Orders.{same_row}
use Rattle.pj_edges.specs.Rows.{has_row}
use Rattle.pj_edges.proofs.KeptRows.{any_more}
use Rattle.pj_edges.proofs.edges.EdgeRows.without_rows.Goals as goal

pub loop-row-preserved : goal.loop-row-preserved
loop-row-preserved g c = record {
  rows = λ q. one_less _ _ _ _ _ (c.in_ok-now.ensures.rows q) (c.loop-row.invariant.rows q)
      ∙ ap (λ b. not b && has_row c.args.self q) (sym (any_more q c.args.rows.now c.loop-row.row-index c.row-item.result c.loop-row-test.true c.row-item.is));
  cost = omega (arith, c.in_ok-now.ensures.cost, c.loop-row.invariant.cost);
}

pub returns-clause-rows : goal.returns-clause-rows
returns-clause-rows g c =
    let whole : take c.loop-row.row-index c.args.rows.now ≡ c.args.rows.now = take_all _ _ (omega arith) in
    λ q. c.loop-row.invariant.rows q ∙ ap (λ (rows : List EdgeRow). not (list_any (same_row q) rows) && has_row c.args.self q) whole
