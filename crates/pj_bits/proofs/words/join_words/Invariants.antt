use Rattle.std.proofs.Common.{get_or, bit_or}
use Rattle.pj_bits.proofs.Writes.{Written}
use Rattle.pj_bits.proofs.words.join_words.Given as goal

-- the first words are joined, and the others are as they were
abbrev pub invariant-loop-k : goal.invariant-loop-k
invariant-loop-k l = Written (λ k. bit_or (get_or l.fn.into k 0) (get_or l.fn.from k 0)) l.fn.into l.into l.k
