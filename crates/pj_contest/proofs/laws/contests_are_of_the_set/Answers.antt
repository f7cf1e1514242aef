use Rattle.pj_contest.proofs.SetTables.{of_members, same_counts}
use Rattle.pj_contest.proofs.laws.contests_are_of_the_set.Goals as goal

pub returns-clause-members : goal.returns-clause-members
returns-clause-members c = of_members

pub returns-clause-counts : goal.returns-clause-counts
returns-clause-counts c = same_counts
