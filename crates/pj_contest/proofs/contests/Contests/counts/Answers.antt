use Rattle.pj_contest.proofs.SetTables.{are_counts}
use Rattle.pj_contest.proofs.contests.Contests.counts.Goals as goal

pub returns-clause-set : goal.returns-clause-set
returns-clause-set c = λ S distinct is. are_counts S distinct c.args.self.now is
