use Rattle.std.proofs.Common.{bit_and}
use Rattle.std.specs.Int.{bit_not, w64}
use Rattle.pj_bits.proofs.Joins.{Joins}
use Rattle.pj_bits.proofs.words.and_not_words.Given as goal

-- the first words are done, and all others are as they were
abbrev pub invariant-loop-k : goal.invariant-loop-k
invariant-loop-k l = Joins (λ a b. bit_and a (bit_not w64 b)) l.fn.words l.words l.into l.from l.k
