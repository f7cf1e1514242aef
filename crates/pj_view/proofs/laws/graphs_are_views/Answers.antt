use Rattle.pj_view.specs.ShownGraph.{graph_is_view}
use Rattle.pj_view.proofs.laws.graphs_are_views.Goals as goal

pub returns : goal.returns
returns c = graph_is_view
