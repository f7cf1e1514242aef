use Rattle.std.proofs.Common.{bit_or}
use Rattle.pj_bits.proofs.Joins.{Joins}
use Rattle.pj_bits.proofs.words.or_words.Given as goal

-- the first words are done, and all others are as they were
abbrev pub invariant-loop-k : goal.invariant-loop-k
invariant-loop-k l = Joins bit_or l.fn.words l.words l.into l.from l.k
