use Rattle.pj_edges.proofs.RowOrder.{one_point, other_points}
use Rattle.pj_edges.proofs.NextRows.{into_none, into_other, into_same_target}
use Rattle.pj_edges.proofs.walks.IntoWalk.into_after.Goals as goal

pub returns-in_err-found-clause-next : goal.returns-in_err-found-clause-next
returns-in_err-found-clause-next c =
    rw (c.from_residual.ensures, ← c.self.view_is)
    (into_none c.self.inside.edges.now.out c.self.inside.edges.now.into c.self.invariant.0 c.args.row (rw c.self.invariant.1 at c.in_err-found.ensures.next))

pub returns-then-ne-clause-next : goal.returns-then-ne-clause-next
returns-then-ne-clause-next c =
    rw (← c.self.view_is)
    (into_other c.self.inside.edges.now.out c.self.inside.edges.now.into c.self.invariant.0 c.args.row _ _ (rw c.self.invariant.1 at c.in_ok-found.ensures.next) (other_points _ _ c.if-ne.ensures))

pub returns-clause-next : goal.returns-clause-next
returns-clause-next c =
    rw (← c.self.view_is)
    (into_same_target c.self.inside.edges.now.out c.self.inside.edges.now.into c.self.invariant.0 c.args.row _ _ (rw c.self.invariant.1 at c.in_ok-found.ensures.next) (one_point _ _ c.if-ne.ensures))
