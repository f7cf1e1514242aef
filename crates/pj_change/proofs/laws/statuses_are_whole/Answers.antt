use Rattle.pj_change.proofs.Survivors.{survivor}
use Rattle.pj_change.proofs.Statuses.{vertex_status}
use Rattle.pj_change.proofs.laws.statuses_are_whole.Goals as goal

pub returns-clause-survivor : goal.returns-clause-survivor
returns-clause-survivor c = λ S set p. (let s = survivor S set p in (s.name, s.version, s.is))

pub returns-clause-status : goal.returns-clause-status
returns-clause-status c = vertex_status
