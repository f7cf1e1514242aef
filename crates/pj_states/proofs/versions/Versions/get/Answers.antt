use Rattle.pj_states.proofs.versions.Versions.get.Goals as goal

pub returns : goal.returns
returns c = rw (← c.self.view_is) c.said_in.ensures
