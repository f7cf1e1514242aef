use Rattle.std.proofs.Common.{take}
use Rattle.pj_view.specs.Added.{HasAdded, IsDeadAt, StandsToOne}
use Rattle.pj_view.proofs.touching.with_dead.Given as goal

abbrev pub invariant-loop-at : goal.invariant-loop-at
invariant-loop-at l = HasAdded l.initial.points l.points (StandsToOne (take l.at-index l.list) (IsDeadAt l.view))
