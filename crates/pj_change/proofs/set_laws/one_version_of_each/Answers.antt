use Rattle.pj_change.proofs.OneCover.{one_cover}
use Rattle.pj_change.proofs.VersionsInOrder.{one_version}
use Rattle.pj_change.proofs.set_laws.one_version_of_each.Goals as goal

pub returns-clause-hunk : goal.returns-clause-hunk
returns-clause-hunk c = one_cover

pub returns-clause-version : goal.returns-clause-version
returns-clause-version c = one_version
