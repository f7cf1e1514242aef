use Rattle.std.proofs.Common.{get_or, bit_and, bit_or, bit_xor}
use Rattle.std.specs.Int.{bit_not, w64}
use Rattle.pj_bits.proofs.Writes.{Written}
use Rattle.pj_bits.proofs.words.subtract_words.Given as goal

-- the first words are subtracted, and the others are as they were
abbrev pub invariant-loop-k : goal.invariant-loop-k
invariant-loop-k l =
    Written (λ k. bit_xor (get_or l.fn.rest k 0) (get_or l.fn.borrow k 0)) l.fn.rest l.rest l.k
    × Written (λ k. bit_and (bit_not w64 (get_or l.fn.rest k 0)) (get_or l.fn.borrow k 0)) l.fn.borrow l.borrow l.k
    × Written (λ k. bit_or (get_or l.fn.seen k 0) (bit_xor (get_or l.fn.rest k 0) (get_or l.fn.borrow k 0))) l.fn.seen l.seen l.k
