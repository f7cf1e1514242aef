use Rattle.std.proofs.lemmas.Result.{IfOk-weaker}
use Rattle.pj_tree.proofs.TreeMaps.{inodes-in_order}
use Rattle.pj_tree.proofs.tree.Tree.inodes.Goals as goal

pub returns-clause-sorted : goal.returns-clause-sorted
returns-clause-sorted c = IfOk-weaker c.inodes_in.result _ _ (λ inodes e. rw e (inodes-in_order c.self.inside.inodes c.self.invariant.1)) c.inodes_in.ensures
