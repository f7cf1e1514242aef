use Rattle.std.proofs.Common.{◌∙◌}
use Rattle.pj_state.proofs.KeptFacts.{standing_is, match_standing}
use Rattle.pj_state.proofs.state.State.standing.Goals as goal

pub returns-clause-found : goal.returns-clause-found
returns-clause-found c = λ s r.
    match_standing c.get.result _ _ (c.get.ensures.value ∙ standing_is _ _ _ _ _ c.self.invariant c.args.self.now c.self.view_is s r c.args.name.now)

pub returns-clause-legal : goal.returns-clause-legal
returns-clause-legal c = rw (← c.self.view_is) c.self.invariant.legal
