use Rattle.pj_bits.proofs.Turning.{Turned}
use Rattle.pj_bits.proofs.matrix.BitMatrix.transposed.Given as goal

-- the blocks before this one are turned round
abbrev pub invariant-loop-block : goal.invariant-loop-block
invariant-loop-block l = Turned l.self l.turned l.self-inside.size l.block 0

-- and of this one the columns before this one
abbrev pub invariant-loop-row : goal.invariant-loop-row
invariant-loop-row l = Turned l.self l.turned l.self-inside.size l.block l.row
