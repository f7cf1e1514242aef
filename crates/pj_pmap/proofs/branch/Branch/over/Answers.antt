use Rattle.pj_pmap.proofs.Counts.{node_of_level}
use Rattle.pj_pmap.specs.Nodes.{pairs_of}
use Rattle.pj_pmap.proofs.branch.Branch.over.Goals as goal

pub returns-clause-node : goal.returns-clause-node
returns-clause-node g c = node_of_level (pairs_of g.N.Node.pairs) g.N.Node.most 12 c.args.nodes.items c.requires.level.nodes c.requires.node
