use Rattle.pj_edges.proofs.edges.EdgeRows.by_target.Goals as goal

pub returns-clause-rows : goal.returns-clause-rows
returns-clause-rows c = rw (← c.self.view_is) c.self.invariant.same
