use Rattle.pj_wire.proofs.Seen.{not_seen}
use Rattle.pj_wire.proofs.decoder.Decoder.new.Goals as goal

pub invariant_of-result : goal.invariant_of-result
invariant_of-result c = not_seen c.new.result
