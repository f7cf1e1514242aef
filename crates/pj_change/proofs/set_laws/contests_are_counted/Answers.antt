use Rattle.pj_change.proofs.CountedContests.{contested_where_counted, contests-same, pairs_middle}
use Rattle.pj_change.proofs.set_laws.contests_are_counted.Goals as goal

pub returns-clause-counted : goal.returns-clause-counted
returns-clause-counted c = contested_where_counted

pub returns-clause-same : goal.returns-clause-same
returns-clause-same c = contests-same

pub returns-clause-pairs : goal.returns-clause-pairs
returns-clause-pairs c = pairs_middle
