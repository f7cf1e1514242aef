use Rattle.pj_stored.proofs.Stopping.{stopped_is_not_restored}
use Rattle.pj_stored.proofs.laws.stopped_is_not_restored.Goals as goal

pub returns : goal.returns
returns c = stopped_is_not_restored
