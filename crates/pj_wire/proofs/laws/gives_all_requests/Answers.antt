use Rattle.pj_wire.proofs.Readings.{gives_all}
use Rattle.pj_wire.proofs.laws.gives_all_requests.Goals as goal

pub returns : goal.returns
returns c = gives_all
