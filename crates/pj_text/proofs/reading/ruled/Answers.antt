use Rattle.pj_change.specs.Parts.{parts}
use Rattle.pj_text.proofs.Readings.{ruled}
use Rattle.pj_text.proofs.reading.ruled.Goals as goal

pub returns : goal.returns
returns c =
    rw c.ok_or.ensures.value (ruled (parts c.args.version c.args.message c.args.author c.args.time c.args.needs c.args.knows c.args.hunks) c.of.result c.of.ensures.change c.of.ensures.parts)
