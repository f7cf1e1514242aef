use Rattle.pj_exchange.proofs.Unites.{united_agree}
use Rattle.pj_exchange.proofs.laws.united_agree.Goals as goal

pub returns : goal.returns
returns c = united_agree
