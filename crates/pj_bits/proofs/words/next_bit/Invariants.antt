use Rattle.std.proofs.Common.{◌≡◌, ℕ, ◌*◌, ◌<◌, ◌≤◌, false}
use Rattle.pj_bits.specs.Words.{column_bit}
use Rattle.pj_bits.proofs.words.next_bit.Given as goal

-- no bit is set before the word
abbrev pub invariant-loop-at : goal.invariant-loop-at
invariant-loop-at l = (c : ℕ) → l.from ≤ c → c < l.at * 64 → column_bit l.words c ≡ false
