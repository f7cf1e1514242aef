use Rattle.pj_tree.proofs.TreeMaps.{inodes-without, rows-in_order, inodes-in_order}
use Rattle.pj_tree.proofs.tree.Tree.without_inode.Goals as goal

pub returns-clause-inodes : goal.returns-clause-inodes
returns-clause-inodes g c = rw (← c.self.view_is, c.in_ok-without.ensures.same) (inodes-without c.args.at c.self.inside.inodes c.self.invariant.1)

pub returns-clause-order : goal.returns-clause-order
returns-clause-order g c = record { rows = rows-in_order _ c.in_ok-share.ensures.rising; inodes = inodes-in_order _ c.in_ok-without.ensures.rising }
