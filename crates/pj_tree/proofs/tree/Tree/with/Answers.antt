use Rattle.pj_tree.proofs.TreeMaps.{rows-with, rows-in_order, inodes-in_order}
use Rattle.pj_tree.proofs.tree.Tree.with.Goals as goal

pub returns-clause-rows : goal.returns-clause-rows
returns-clause-rows g c =
    rw (← c.self.view_is, c.in_ok-with.ensures.same, c.of-key.ensures, c.in_ok-new.ensures.ok) (rows-with c.args.row _ c.self.inside.rows c.self.invariant.0)

pub returns-clause-order : goal.returns-clause-order
returns-clause-order g c = record { rows = rows-in_order _ c.in_ok-with.ensures.rising; inodes = inodes-in_order _ c.in_ok-share.ensures.rising }
