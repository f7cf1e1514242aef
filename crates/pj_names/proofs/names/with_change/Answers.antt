use Rattle.pj_change.proofs.LawfulLists.{fewer_held}
use Rattle.pj_names.proofs.Dirs.{others_one}
use Rattle.pj_names.proofs.TreeChanges.{tree_more}
use Rattle.pj_names.proofs.names.with_change.Goals as goal

pub with_names-requires-clause-fresh : goal.with_names-requires-clause-fresh
with_names-requires-clause-fresh g c = fewer_held (g.P.Peers.records c.args.others.now) c.requires.list c.args.record.now.name c.requires.same.there c.requires.follows.fresh

pub with_names-requires-clause-one : goal.with_names-requires-clause-one
with_names-requires-clause-one g c = others_one (g.P.Peers.records c.args.others.now) c.requires.list c.requires.lawful c.requires.same

pub returns-clause-set : goal.returns-clause-set
returns-clause-set g c list lawful follows same is =
    tree_more (g.P.Peers.records c.args.others.now) list c.args.record.now lawful follows same c.args.tree.now c.in_ok-more.more is c.in_ok-more.ensures.rows c.in_ok-more.ensures.inodes
