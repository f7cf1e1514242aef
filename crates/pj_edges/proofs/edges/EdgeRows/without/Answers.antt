use Rattle.pj_rows.proofs.KeyLemmas.{has-without}
use Rattle.pj_edges.specs.Orders.{out_cmp, out_row}
use Rattle.pj_edges.specs.Totals.{out_total}
use Rattle.pj_edges.proofs.KeptRows.{rows_without}
use Rattle.pj_edges.proofs.edges.EdgeRows.without.Goals as goal

pub invariant_of-result : goal.invariant_of-result
invariant_of-result g c =
    rw (c.in_ok-out.ensures.same, c.in_ok-into.ensures.same)
    (rows_without c.self.inside.out c.self.inside.into c.self.invariant c.args.row.now (rw c.in_ok-out.ensures.same at c.in_ok-out.ensures.rising) (rw c.in_ok-into.ensures.same at c.in_ok-into.ensures.rising))

pub returns-clause-rows : goal.returns-clause-rows
returns-clause-rows g c q = rw (c.in_ok-out.ensures.same, ← c.self.view_is) (has-without out_cmp out_total (out_row q) (out_row c.args.row.now) c.self.inside.out c.self.invariant.out_rises)
