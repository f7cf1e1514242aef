use Rattle.pj_exchange.proofs.Growing.{side_grows}
use Rattle.pj_exchange.proofs.laws.side_grows.Goals as goal

pub returns : goal.returns
returns c = side_grows
