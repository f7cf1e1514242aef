use Rattle.pj_change.proofs.SameSets.{back_again}
use Rattle.pj_change.proofs.SurvivorLists.{survivors_there}
use Rattle.pj_change.proofs.VersionsInOrder.{one_survivors, survivors-same, deleted_survivor, living_survivor, contested_survivor}
use Rattle.pj_change.proofs.set_laws.versions_give_statuses.Goals as goal

pub returns-clause-there : goal.returns-clause-there
returns-clause-there c = survivors_there

pub returns-clause-same : goal.returns-clause-same
returns-clause-same c = λ S T same p us vs a b. one_survivors S p us vs a (survivors-same T S (back_again S T same) p vs b)

pub returns-clause-deleted : goal.returns-clause-deleted
returns-clause-deleted c = deleted_survivor

pub returns-clause-alive : goal.returns-clause-alive
returns-clause-alive c = living_survivor

pub returns-clause-contested : goal.returns-clause-contested
returns-clause-contested c = contested_survivor
