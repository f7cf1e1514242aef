use Rattle.pj_change.proofs.CountedCuts.{cut_where_counted, cuts-same}
use Rattle.pj_change.proofs.set_laws.cuts_are_counted.Goals as goal

pub returns-clause-counted : goal.returns-clause-counted
returns-clause-counted c = cut_where_counted

pub returns-clause-same : goal.returns-clause-same
returns-clause-same c = cuts-same
