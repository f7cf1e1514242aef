use Rattle.pj_exchange.proofs.OnlyGrows.{only_grows}
use Rattle.pj_exchange.proofs.laws.only_grows.Goals as goal

pub returns : goal.returns
returns c = only_grows
