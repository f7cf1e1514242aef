use Rattle.std.proofs.Common.{◌∙◌, sym}
use Rattle.pj_edges.proofs.RowOrder.{one_place, other_places}
use Rattle.pj_edges.proofs.NextRows.{out_none, out_other, out_same}
use Rattle.pj_edges.proofs.walks.OutWalk.out_after.Goals as goal

pub returns-in_err-found-clause-next : goal.returns-in_err-found-clause-next
returns-in_err-found-clause-next c =
    rw (c.from_residual.ensures, ← c.self.view_is)
    (out_none c.self.inside.edges.now.out c.self.inside.edges.now.into c.self.invariant.0 c.args.row (rw c.self.invariant.1 at c.in_err-found.ensures.next))

pub returns-then-is_ne-clause-next : goal.returns-then-is_ne-clause-next
returns-then-is_ne-clause-next c =
    rw (← c.self.view_is)
    (out_other c.self.inside.edges.now.out c.self.inside.edges.now.into c.self.invariant.0 c.args.row _ _ (rw c.self.invariant.1 at c.in_ok-found.ensures.next)
    (other_places _ _ (rw c.by_place.ensures at (sym c.is_ne.ensures ∙ c.if-is_ne.true))))

pub returns-clause-next : goal.returns-clause-next
returns-clause-next c =
    rw (← c.self.view_is)
    (out_same c.self.inside.edges.now.out c.self.inside.edges.now.into c.self.invariant.0 c.args.row _ _ (rw c.self.invariant.1 at c.in_ok-found.ensures.next)
    (one_place _ _ (rw c.by_place.ensures at (sym c.is_ne.ensures ∙ c.if-is_ne.false))))
