use Rattle.pj_wire.proofs.Seen.{not_seen}
use Rattle.pj_wire.proofs.decoder.Decoder.give.Goals as goal

pub invariant_of-self : goal.invariant_of-self
invariant_of-self c = not_seen c.keep_last.new.self
