use Rattle.pj_exchange.proofs.Counting.{counts_applications}
use Rattle.pj_exchange.proofs.laws.counts_applications.Goals as goal

pub returns : goal.returns
returns c = counts_applications
