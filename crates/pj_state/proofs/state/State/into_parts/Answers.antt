use Rattle.pj_state.proofs.KeptFacts.{standing_is}
use Rattle.pj_state.proofs.state.State.into_parts.Goals as goal

pub returns-clause-channels : goal.returns-clause-channels
returns-clause-channels c = λ s r name. standing_is _ _ _ _ _ c.self.invariant c.args.self c.self.view_is s r name
