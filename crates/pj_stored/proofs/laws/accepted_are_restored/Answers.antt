use Rattle.pj_stored.proofs.Alone.{accepted_are_restored}
use Rattle.pj_stored.proofs.laws.accepted_are_restored.Goals as goal

pub returns : goal.returns
returns c = accepted_are_restored
