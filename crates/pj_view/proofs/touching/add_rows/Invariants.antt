use Rattle.std.proofs.Common.{take}
use Rattle.pj_view.specs.Added.{HasAdded, IsOldEnd, StandsToOne}
use Rattle.pj_view.proofs.touching.add_rows.Given as goal

abbrev pub invariant-loop-row : goal.invariant-loop-row
invariant-loop-row l = HasAdded l.initial.points.items l.points.items (StandsToOne (take l.row-index l.rows) (IsOldEnd l.name))
