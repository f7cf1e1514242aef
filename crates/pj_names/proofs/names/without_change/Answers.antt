use Rattle.std.proofs.Common.{◌++◌}
use Rattle.pj_change.proofs.LawfulLists.{fewer_held}
use Rattle.pj_names.proofs.Dirs.{others_one}
use Rattle.pj_names.proofs.TreeChanges.{tree_less, gone}
use Rattle.pj_names.proofs.names.without_change.Goals as goal

pub without_names-requires-clause-fresh : goal.without_names-requires-clause-fresh
without_names-requires-clause-fresh g c = fewer_held (g.P.Peers.records c.args.others.now) (c.requires.before ++ c.requires.after) c.args.record.now.name c.requires.same.there
    (gone c.requires.before c.args.record.now c.requires.after c.requires.lawful)

pub without_names-requires-clause-one : goal.without_names-requires-clause-one
without_names-requires-clause-one g c = others_one (g.P.Peers.records c.args.others.now) (c.requires.before ++ c.requires.after) c.requires.left c.requires.same

pub returns-clause-set : goal.returns-clause-set
returns-clause-set g c before after lawful left same is =
    tree_less (g.P.Peers.records c.args.others.now) before c.args.record.now after lawful left same c.args.tree.now c.in_ok-fewer.fewer is c.in_ok-fewer.ensures.rows c.in_ok-fewer.ensures.inodes
