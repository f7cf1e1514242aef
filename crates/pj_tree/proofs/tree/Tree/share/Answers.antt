use Rattle.pj_tree.proofs.TreeMaps.{rows-in_order, inodes-in_order}
use Rattle.pj_tree.proofs.tree.Tree.share.Goals as goal

pub returns-clause-order : goal.returns-clause-order
returns-clause-order c = record { rows = rows-in_order _ c.in_ok-share.ensures.rising; inodes = inodes-in_order _ c.in_ok-share-2.ensures.rising }
