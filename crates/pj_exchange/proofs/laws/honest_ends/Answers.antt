use Rattle.pj_exchange.proofs.HonestEnds.{honest_ends, honest_is_whole}
use Rattle.pj_exchange.proofs.laws.honest_ends.Goals as goal

pub returns-clause-ends : goal.returns-clause-ends
returns-clause-ends c = honest_ends

pub returns-clause-whole : goal.returns-clause-whole
returns-clause-whole c = honest_is_whole
