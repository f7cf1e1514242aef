use Rattle.pj_session.proofs.Spoken.{spoke_later}
use Rattle.pj_session.proofs.laws.spoke_later.Goals as goal

pub returns : goal.returns
returns c = spoke_later
