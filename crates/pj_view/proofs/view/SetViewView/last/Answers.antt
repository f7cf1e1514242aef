use Rattle.pj_view.specs.SetGraph.{graph_of}
use Rattle.pj_view.specs.ShownGraph.{graph_whole, graph_is_view}
use Rattle.pj_view.proofs.ViewPoints.{last_is}
use Rattle.pj_view.proofs.view.SetViewView.last.Goals as goal

pub returns : goal.returns
returns c =
    let S = c.args.self.now in
    let lawful = c.list-list.ensures.lawful in
    last_is S lawful (graph_of S) (graph_whole S) (graph_is_view S lawful) c.args.at c.last_of.result c.requires c.last_of.ensures
