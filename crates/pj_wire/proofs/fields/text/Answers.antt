use Rattle.pj_wire.proofs.Texts.{text_short}
use Rattle.pj_wire.proofs.fields.text.Goals as goal

pub returns-then-bytes-count : goal.returns-then-bytes-count
returns-then-bytes-count c = text_short c.args.bytes.now c.args.count c.if-bytes-count.true
