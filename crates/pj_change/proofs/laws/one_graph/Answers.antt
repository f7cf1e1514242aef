use Rattle.pj_change.proofs.OneGraph.{one_graph}
use Rattle.pj_change.proofs.SameSets.{itself}
use Rattle.pj_change.proofs.laws.one_graph.Goals as goal

pub returns : goal.returns
returns c = λ S g h a b. one_graph S S g h (itself S) a b
