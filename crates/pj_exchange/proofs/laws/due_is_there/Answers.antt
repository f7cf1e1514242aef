use Rattle.pj_exchange.proofs.Due.{due_is_there}
use Rattle.pj_exchange.proofs.laws.due_is_there.Goals as goal

pub returns : goal.returns
returns c = due_is_there
