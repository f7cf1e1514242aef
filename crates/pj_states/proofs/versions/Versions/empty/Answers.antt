use Rattle.pj_states.proofs.Indexed.{indexed_none}
use Rattle.pj_states.proofs.NamedRows.{named_none}
use Rattle.pj_states.proofs.OfSets.{versions_of_none}
use Rattle.pj_states.proofs.versions.Versions.empty.Goals as goal

pub invariant_of-result : goal.invariant_of-result
invariant_of-result c = (rw (c.empty.ensures, c.empty-2.ensures) indexed_none, rw (c.empty.ensures, c.empty-3.ensures) named_none)

pub returns-clause-set : goal.returns-clause-set
returns-clause-set c = rw c.empty.ensures versions_of_none
