use Rattle.pj_layout.proofs.Digits.{Raised}
use Rattle.pj_layout.proofs.counts.ColumnCounts.raise.Given as goal

-- the first digits are added
abbrev pub invariant-loop-digit : goal.invariant-loop-digit
invariant-loop-digit l = Raised l.initial.digit-items l.digit-items l.initial.row l.row l.digit-index
