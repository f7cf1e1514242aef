use Rattle.pj_tree.specs.Frames.{IsAmongAdrift, IsMarked}
use Rattle.pj_tree.proofs.walker.Guide.visit_adrift.Given as goal

abbrev pub invariant-loop-index : goal.invariant-loop-index
invariant-loop-index l = IsAmongAdrift l.self l.index l.fn.progress.steps.items l.progress.steps.items × IsMarked l.self.inodes.now l.progress
