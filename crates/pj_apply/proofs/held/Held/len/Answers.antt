use Rattle.std.proofs.Common.{subst}
use Rattle.pj_change.specs.Sets.{HaveDistinctNames}
use Rattle.pj_apply.proofs.Distinct.{distinct_names}
use Rattle.pj_apply.proofs.held.Held.len.Goals as goal

pub returns-clause-distinct : goal.returns-clause-distinct
returns-clause-distinct c = subst HaveDistinctNames c.self.view_is (distinct_names _ c.self.invariant.distinct)
