use Rattle.pj_states.proofs.SetChanges.{nothing_said}
use Rattle.pj_states.proofs.laws.nothing_is_said_by_others.Goals as goal

pub returns : goal.returns
returns c = nothing_said
