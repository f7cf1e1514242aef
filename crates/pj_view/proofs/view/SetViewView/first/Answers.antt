use Rattle.std.proofs.Common.{◌≡◌, ◌∙◌, sym, true, false}
use Rattle.pj_view.specs.SetGraph.{graph_of}
use Rattle.pj_view.specs.ShownGraph.{graph_whole, graph_is_view}
use Rattle.pj_view.proofs.ViewPoints.{first_text, first_file, first_other}
use Rattle.pj_view.proofs.view.SetViewView.first.Goals as goal

pub returns-in-Some : goal.returns-in-Some
returns-in-Some c =
    let S = c.args.self.now in
    let lawful = c.list-list.ensures.lawful in
    sym (first_text S lawful (graph_of S) (graph_whole S) (graph_is_view S lawful) c.args.at _ c.in-Some.ensures.0 c.in-Some.ensures.1)

pub returns-then-is_file : goal.returns-then-is_file
returns-then-is_file c =
    let S = c.args.self.now in
    let lawful = c.list-list.ensures.lawful in
    sym (first_file S lawful (graph_of S) (graph_whole S) (graph_is_view S lawful) c.args.at (c.is_file.ensures.0 c.if-is_file.true))

pub returns-else-is_file : goal.returns-else-is_file
returns-else-is_file c =
    let S = c.args.self.now in
    let lawful = c.list-list.ensures.lawful in
    sym (first_other S lawful (graph_of S) (graph_whole S) (graph_is_view S lawful) c.args.at c.in-None.ensures (λ i. (let e : false ≡ true = sym c.if-is_file.false ∙ c.is_file.ensures.1 i in cc)))
