use Rattle.std.proofs.Common.{take}
use Rattle.pj_view.specs.Added.{IsCovered, HasEntries, StandsToOne}
use Rattle.pj_view.proofs.touching.add_hunks.Given as goal

abbrev pub invariant-loop-hunk : goal.invariant-loop-hunk
invariant-loop-hunk l = HasEntries l.view l.initial.points.items l.points.items (StandsToOne (take l.hunk-index l.«record».change.hunks) (IsCovered l.«record»))
