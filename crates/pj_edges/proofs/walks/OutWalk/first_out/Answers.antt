use Rattle.std.proofs.Common.{ap}
use Rattle.std.specs.Prelude.{is_some}
use Rattle.pj_edges.proofs.NextRows.{out_at_least, out_above_least}
use Rattle.pj_edges.proofs.walks.OutWalk.first_out.Goals as goal

pub returns-in-Some-clause-next : goal.returns-in-Some-clause-next
returns-in-Some-clause-next c =
    rw (c.least_out-least.ensures, ← c.self.view_is)
    (out_at_least c.self.inside.edges.now.out c.self.inside.edges.now.into c.self.invariant.0 c.args.source (ap is_some (rw (c.least_out-least.ensures, c.by_source.ensures.same) at c.in-Some.ensures)))

pub returns-in-None-clause-next : goal.returns-in-None-clause-next
returns-in-None-clause-next c =
    rw (← c.self.view_is)
    (out_above_least c.self.inside.edges.now.out c.self.inside.edges.now.into c.self.invariant.0 c.args.source (ap is_some (rw (c.least_out-least.ensures, c.by_source.ensures.same) at c.in-None.ensures)) c.out_after.result
    (rw (c.least_out-least.ensures, ← c.self.view_is) at c.out_after.ensures.next))
