use Rattle.pj_stored.proofs.Restorings.{prefixes_are_restored, crashes_are_restored}
use Rattle.pj_stored.proofs.laws.crashes_are_restored.Goals as goal

pub returns-clause-prefixes : goal.returns-clause-prefixes
returns-clause-prefixes c = prefixes_are_restored

pub returns-clause-images : goal.returns-clause-images
returns-clause-images c = crashes_are_restored
