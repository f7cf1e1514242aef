use Rattle.pj_exchange.proofs.OneEnd.{one_end}
use Rattle.pj_exchange.proofs.laws.one_end.Goals as goal

pub returns : goal.returns
returns c = one_end
