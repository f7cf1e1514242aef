use Rattle.std.proofs.Common.{◌-◌, arith}
use Rattle.pj_bits.proofs.LowBits.{masked_below, masked_above}
use Rattle.pj_bits.proofs.words.bits_from.Goals as goal

pub returns-then-from-first-lt64-clause-before : goal.returns-then-from-first-lt64-clause-before
returns-then-from-first-lt64-clause-before c = λ j h b. masked_below c.args.word (c.args.from - c.args.first) j c.if-from-first-lt64.true (omega arith)

pub returns-then-from-first-lt64-clause-others : goal.returns-then-from-first-lt64-clause-others
returns-then-from-first-lt64-clause-others c = λ j h b. masked_above c.args.word (c.args.from - c.args.first) j c.if-from-first-lt64.true (omega arith) h
