use Rattle.std.proofs.Common.{get_or, bit_and, bit_xor}
use Rattle.pj_bits.proofs.Writes.{Written}
use Rattle.pj_bits.proofs.words.add_words.Given as goal

-- the first words are added, and the others are as they were
abbrev pub invariant-loop-k : goal.invariant-loop-k
invariant-loop-k l =
    Written (λ k. bit_xor (get_or l.fn.sum k 0) (get_or l.fn.carry k 0)) l.fn.sum l.sum l.k
    × Written (λ k. bit_and (get_or l.fn.sum k 0) (get_or l.fn.carry k 0)) l.fn.carry l.carry l.k
