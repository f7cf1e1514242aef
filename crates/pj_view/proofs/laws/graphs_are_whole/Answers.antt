use Rattle.pj_view.specs.ShownGraph.{graph_whole}
use Rattle.pj_view.proofs.laws.graphs_are_whole.Goals as goal

pub returns : goal.returns
returns c = graph_whole
