use Rattle.pj_change.proofs.FollowLemmas.{needs_found}
use Rattle.pj_context.proofs.laws.needs_are_found.Goals as goal

pub returns : goal.returns
returns c = needs_found
