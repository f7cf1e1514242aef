use Rattle.pj_tree.specs.Frames.{IsAmongOrphans, IsMarked}
use Rattle.pj_tree.proofs.walker.Guide.visit_orphans.Given as goal

abbrev pub invariant-loop-index : goal.invariant-loop-index
invariant-loop-index g l =
    IsAmongOrphans l.self (g.V.Lives.live l.lives) l.index l.fn.progress.steps.items l.progress.steps.items × IsMarked l.self.inodes.now l.progress
