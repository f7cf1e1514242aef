use Rattle.std.proofs.Common.{ap}
use Rattle.std.specs.Prelude.{is_some}
use Rattle.pj_edges.proofs.NextRows.{into_at_least, into_above_least}
use Rattle.pj_edges.proofs.walks.IntoWalk.first_into.Goals as goal

pub returns-in-Some-clause-next : goal.returns-in-Some-clause-next
returns-in-Some-clause-next c =
    rw (c.least_into-least.ensures, ← c.self.view_is)
    (into_at_least c.self.inside.edges.now.out c.self.inside.edges.now.into c.self.invariant.0 c.args.target (ap is_some (rw (c.least_into-least.ensures, c.by_target.ensures.same) at c.in-Some.ensures)))

pub returns-in-None-clause-next : goal.returns-in-None-clause-next
returns-in-None-clause-next c =
    rw (← c.self.view_is)
    (into_above_least c.self.inside.edges.now.out c.self.inside.edges.now.into c.self.invariant.0 c.args.target (ap is_some (rw (c.least_into-least.ensures, c.by_target.ensures.same) at c.in-None.ensures)) c.into_after.result
    (rw (c.least_into-least.ensures, ← c.self.view_is) at c.into_after.ensures.next))
