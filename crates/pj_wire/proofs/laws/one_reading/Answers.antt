use Rattle.pj_wire.proofs.Readings.{one_reading}
use Rattle.pj_wire.proofs.laws.one_reading.Goals as goal

pub returns : goal.returns
returns c = one_reading
