use Rattle.std.proofs.Common.{◌≡◌, ◌∙◌, sym, ap, true, false}
use Rattle.pj_change.specs.Status.{status_of}
use Rattle.pj_view.specs.SetGraph.{graph_of}
use Rattle.pj_view.specs.ShownGraph.{graph_whole, graph_is_view}
use Rattle.pj_view.specs.Touched.{is_dead}
use Rattle.pj_view.proofs.KeptVertices.{dead_is}
use Rattle.pj_view.proofs.ViewPoints.{dead_where_text, live_vertex}
use Rattle.pj_view.proofs.view.SetViewView.dead.Goals as goal

pub returns-then-not-is_dead : goal.returns-then-not-is_dead
returns-then-not-is_dead c =
    let S = c.args.self.now in
    let lawful = c.list-list.ensures.lawful in
    sym (live_vertex S lawful (graph_of S) (graph_whole S) (graph_is_view S lawful) c.args.at c.requires (λ d. (let e : false ≡ true = sym c.if-not-is_dead.true ∙ c.is_dead.ensures ∙ ap is_dead d in cc)))

pub returns : goal.returns
returns c =
    let S = c.args.self.now in
    let lawful = c.list-list.ensures.lawful in
    c.is_some.ensures ∙ dead_where_text S lawful (graph_of S) (graph_whole S) (graph_is_view S lawful) c.args.at c.start_of.result c.requires
    (dead_is (status_of S c.args.at) (sym c.is_dead.ensures ∙ c.if-not-is_dead.false)) c.start_of.ensures
