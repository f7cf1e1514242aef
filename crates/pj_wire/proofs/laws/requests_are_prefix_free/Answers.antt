use Rattle.pj_wire.proofs.OneRequest.{one_request}
use Rattle.pj_wire.proofs.Readings.{part_has_none}
use Rattle.pj_wire.proofs.laws.requests_are_prefix_free.Goals as goal

pub returns-clause-free : goal.returns-clause-free
returns-clause-free c = one_request

pub returns-clause-part : goal.returns-clause-part
returns-clause-part c = part_has_none
