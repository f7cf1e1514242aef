use Rattle.pj_tree.proofs.TreeMaps.{rows-without, rows-in_order, inodes-in_order}
use Rattle.pj_tree.proofs.tree.Tree.without.Goals as goal

pub returns-clause-rows : goal.returns-clause-rows
returns-clause-rows g c =
    rw (← c.self.view_is, c.in_ok-without.ensures.same, c.of-key.ensures, c.in_ok-new.ensures.ok, c.in_ok-copied.ensures) (rows-without c.args.row.now c.self.inside.rows c.self.invariant.0)

pub returns-clause-order : goal.returns-clause-order
returns-clause-order g c = record { rows = rows-in_order _ c.in_ok-without.ensures.rising; inodes = inodes-in_order _ c.in_ok-share.ensures.rising }
