use Rattle.std.proofs.Common.{◌≡◌, drop}
use Rattle.pj_layout.specs.Counts.{count}
use Rattle.pj_layout.proofs.counts.ColumnCounts.get.Given as goal

-- the higher digits are read
abbrev pub invariant-loop-place : goal.invariant-loop-place
invariant-loop-place l = l.sum ≡ count (drop l.place l.self.digits.items) l.column
