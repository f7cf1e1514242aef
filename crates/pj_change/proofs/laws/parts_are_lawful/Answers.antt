use Rattle.pj_change.proofs.LawfulLists.{part_lawful, without_lawful}
use Rattle.pj_change.proofs.laws.parts_are_lawful.Goals as goal

pub returns-clause-parts : goal.returns-clause-parts
returns-clause-parts c = part_lawful

pub returns-clause-others : goal.returns-clause-others
returns-clause-others c = without_lawful
