use Rattle.pj_pmap.proofs.Chosen.{floor_in}
use Rattle.pj_pmap.specs.Nodes.{pairs_of}
use Rattle.pj_pmap.proofs.node.floor_in.Goals as goal

pub returns : goal.returns
returns g c = rw (floor_in (pairs_of g.N.Node.pairs) g.N.Node.most c.args.nodes.now c.choose-at.ensures c.index-nodes-at.is c.node-node.ensures c.requires.level.nodes) c.floor.ensures
