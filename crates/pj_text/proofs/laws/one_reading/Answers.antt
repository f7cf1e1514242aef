use Rattle.pj_text.proofs.Readings.{one_change}
use Rattle.pj_text.proofs.laws.one_reading.Goals as goal

pub returns : goal.returns
returns c = one_change
