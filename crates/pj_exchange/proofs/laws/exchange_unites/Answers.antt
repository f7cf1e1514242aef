use Rattle.pj_exchange.proofs.Unites.{exchange_unites}
use Rattle.pj_exchange.proofs.laws.exchange_unites.Goals as goal

pub returns : goal.returns
returns c = exchange_unites
