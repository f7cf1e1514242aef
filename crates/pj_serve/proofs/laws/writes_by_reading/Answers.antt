use Rattle.pj_serve.proofs.Alone.{writes_by_reading}
use Rattle.pj_serve.proofs.laws.writes_by_reading.Goals as goal

pub returns : goal.returns
returns c = writes_by_reading
