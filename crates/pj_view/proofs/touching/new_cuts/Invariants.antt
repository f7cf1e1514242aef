use Rattle.std.proofs.Common.{take}
use Rattle.pj_view.specs.Added.{HasAdded, IsUncutAt, StandsToOne}
use Rattle.pj_view.proofs.touching.new_cuts.Given as goal

abbrev pub invariant-loop-at : goal.invariant-loop-at
invariant-loop-at l = HasAdded l.initial.new.items l.new.items (StandsToOne (take l.at-index l.cuts) (IsUncutAt l.view))
