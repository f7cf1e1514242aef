use Rattle.pj_change.proofs.FollowLemmas.{unbroken}
use Rattle.pj_context.proofs.laws.unbroken_follows.Goals as goal

pub returns : goal.returns
returns c = unbroken
