use Rattle.std.proofs.lemmas.Result.{IfOk-weaker}
use Rattle.pj_tree.proofs.TreeMaps.{rows-in_order}
use Rattle.pj_tree.proofs.tree.Tree.rows.Goals as goal

pub returns-clause-sorted : goal.returns-clause-sorted
returns-clause-sorted c = IfOk-weaker c.rows_in.result _ _ (λ rows e. rw e (rows-in_order c.self.inside.rows c.self.invariant.0)) c.rows_in.ensures
