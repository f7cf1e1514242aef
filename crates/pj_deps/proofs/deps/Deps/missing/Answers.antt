use Rattle.pj_deps.proofs.LeastHolders.{least_lacking, least_missing}
use Rattle.pj_deps.proofs.deps.Deps.missing.Goals as goal

pub returns-clause-table : goal.returns-clause-table
returns-clause-table c = least_lacking c.args.self.now c.args.record.now c.first_lacking.result (rw c.items.ensures at c.first_lacking.ensures)

pub returns-clause-set : goal.returns-clause-set
returns-clause-set c = λ S of. least_missing c.args.self.now c.args.record.now S of c.first_lacking.result (returns-clause-table c)
