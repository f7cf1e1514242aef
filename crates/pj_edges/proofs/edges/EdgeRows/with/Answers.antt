use Rattle.pj_rows.proofs.KeyLemmas.{has-with}
use Rattle.pj_edges.specs.Orders.{out_cmp, out_row}
use Rattle.pj_edges.specs.Totals.{out_total}
use Rattle.pj_edges.proofs.KeptRows.{rows_with}
use Rattle.pj_edges.proofs.edges.EdgeRows.with.Goals as goal

pub invariant_of-result : goal.invariant_of-result
invariant_of-result g c =
    rw (c.in_ok-out.ensures.same, c.in_ok-into.ensures.same)
    (rows_with c.self.inside.out c.self.inside.into c.self.invariant c.args.row _ _ (rw c.in_ok-out.ensures.same at c.in_ok-out.ensures.rising) (rw c.in_ok-into.ensures.same at c.in_ok-into.ensures.rising))

pub returns-clause-rows : goal.returns-clause-rows
returns-clause-rows g c q = rw (c.in_ok-out.ensures.same, ← c.self.view_is) (has-with out_cmp out_total (out_row q) (out_row c.args.row) _ c.self.inside.out)
