use Rattle.pj_stored.proofs.Restorings.{requests_are_stored, restored_is_legal, at_most_one_restored}
use Rattle.pj_stored.proofs.laws.restored_is_lawful.Goals as goal

pub returns-clause-requests : goal.returns-clause-requests
returns-clause-requests c = requests_are_stored

pub returns-clause-legal : goal.returns-clause-legal
returns-clause-legal c = restored_is_legal

pub returns-clause-one : goal.returns-clause-one
returns-clause-one c = at_most_one_restored
