use Rattle.pj_pmap.proofs.Chosen.{value_in}
use Rattle.pj_pmap.specs.Nodes.{pairs_of}
use Rattle.pj_pmap.proofs.node.get_in.Goals as goal

pub returns : goal.returns
returns g c = rw (value_in (pairs_of g.N.Node.pairs) g.N.Node.most c.args.nodes.now c.choose-at.ensures c.index-nodes-at.is c.node-node.ensures) c.get.ensures
