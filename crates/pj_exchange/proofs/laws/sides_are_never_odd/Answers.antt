use Rattle.pj_exchange.proofs.NeverOdd.{never_odd}
use Rattle.pj_exchange.proofs.laws.sides_are_never_odd.Goals as goal

pub returns : goal.returns
returns c = never_odd
