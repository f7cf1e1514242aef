use Rattle.std.proofs.Common.{get_or, bit_and, bit_or}
use Rattle.std.specs.Int.{bit_not, w64}
use Rattle.pj_bits.proofs.Writes.{Written}
use Rattle.pj_bits.proofs.words.move_common.Given as goal

-- the first words are parted, and the others are as they were
abbrev pub invariant-loop-k : goal.invariant-loop-k
invariant-loop-k l =
    Written (λ k. bit_and (get_or l.fn.rest k 0) (bit_not w64 (get_or l.fn.chosen k 0))) l.fn.rest l.rest l.k
    × Written (λ k. bit_or (get_or l.fn.to k 0) (bit_and (get_or l.fn.rest k 0) (get_or l.fn.chosen k 0))) l.fn.to l.to l.k
