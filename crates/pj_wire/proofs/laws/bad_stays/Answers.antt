use Rattle.pj_wire.proofs.Readings.{strange_stays}
use Rattle.pj_wire.proofs.laws.bad_stays.Goals as goal

pub returns : goal.returns
returns c = strange_stays
