use Rattle.std.proofs.Common.{arith}
use Rattle.pj_output.proofs.BlockTexts.{text_found}
use Rattle.pj_output.proofs.live_text.text_from.Goals as goal

pub returns : goal.returns
returns c = text_found c.args.tables.now c.list-list.ensures.lawful c.args.block.now c.requires.block c.args.offset c.requires.low (omega (arith, c.if-offset-block.false)) c.text_at.result c.text_at.ensures
