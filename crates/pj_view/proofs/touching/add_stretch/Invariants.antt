use Rattle.std.proofs.Common.{◌-◌}
use Rattle.pj_view.specs.Added.{HasEntries}
use Rattle.pj_view.proofs.RangeWalks.{Within}
use Rattle.pj_view.proofs.touching.add_stretch.Given as goal

-- there is an entry to each position before the offset
abbrev pub invariant-loop-offset : goal.invariant-loop-offset
invariant-loop-offset l = HasEntries l.view l.initial.points.items l.points.items (Within l.change l.start l.offset)

abbrev pub decreases-loop-offset : goal.decreases-loop-offset
decreases-loop-offset l = l.end - l.offset
