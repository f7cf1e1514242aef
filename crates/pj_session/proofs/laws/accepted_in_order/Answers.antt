use Rattle.pj_session.proofs.Accepting.{accepted_in_order}
use Rattle.pj_session.proofs.laws.accepted_in_order.Goals as goal

pub returns : goal.returns
returns c = accepted_in_order
