use Rattle.pj_tree.specs.Frames.{IsUnderway, IsMarked, work_left}
use Rattle.pj_tree.proofs.walker.Guide.walk.Given as goal

abbrev pub invariant-loop-top : goal.invariant-loop-top
invariant-loop-top l = IsUnderway l.self l.fn.frame l.frames.items l.fn.progress.steps.items l.progress.steps.items × IsMarked l.self.inodes.now l.progress

abbrev pub decreases-loop-top : goal.decreases-loop-top
decreases-loop-top l = work_left l.self.pairings.now l.progress.seen.items l.frames.items
