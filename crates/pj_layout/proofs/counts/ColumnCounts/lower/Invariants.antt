use Rattle.pj_layout.proofs.Digits.{Lowered}
use Rattle.pj_layout.proofs.counts.ColumnCounts.lower.Given as goal

-- the first digits are subtracted
abbrev pub invariant-loop-digit : goal.invariant-loop-digit
invariant-loop-digit l = Lowered l.initial.digit-items l.digit-items l.initial.row l.row l.initial.counted l.counted l.digit-index
