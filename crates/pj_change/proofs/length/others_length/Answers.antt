use Rattle.std.proofs.Common.{[], ap, length, arith}
use Rattle.std.specs.Prelude.{decimal}
use Rattle.pj_change.specs.Parts.{parts}
use Rattle.pj_change.proofs.LengthLemmas.{length-text_of}
use Rattle.pj_change.proofs.length.others_length.Goals as goal

pub returns : goal.returns
returns c =
    omega (
      arith,
      length-text_of (parts c.args.version c.args.message.now c.args.author.now c.args.time c.args.needs.now c.args.knows.now []),
      ap (λ n. length (decimal n)) c.from.ensures,
      ap (λ n. length (decimal n)) c.from-2.ensures,
    )
