use Rattle.std.proofs.Common.{take}
use Rattle.pj_view.specs.Added.{HasAdded, IsBefore, StandsToOne}
use Rattle.pj_view.proofs.touching.add_before.Given as goal

abbrev pub invariant-loop-at : goal.invariant-loop-at
invariant-loop-at l = HasAdded l.initial.points.items l.points.items (StandsToOne (take l.at-index l.cuts) IsBefore)
