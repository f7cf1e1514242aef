use Rattle.pj_session.proofs.Accepting.{enters_accepted}
use Rattle.pj_session.proofs.laws.enters_accepted.Goals as goal

pub returns : goal.returns
returns c = enters_accepted
