use Rattle.std.proofs.Common.{◌≡◌, subst, sym}
use Rattle.std.specs.Prelude.{Contains, MatchOption}
use Rattle.pj_change.specs.declared.point.Point.{Point}
use Rattle.pj_change.specs.declared.point.Place.TheVariants as placed
use Rattle.pj_change.specs.Vertices.{first_point, last_point}
use Rattle.pj_change.proofs.LawfulLists.{set_of}
use Rattle.pj_change.proofs.VertexOfPoint.{lawful_one_text}
use Rattle.pj_dead.specs.PointGraphs.{next_above}
use Rattle.pj_dead.specs.Pseudo.{Leads, IsNoTarget, IsNextTarget}
use Rattle.pj_view.specs.Ends as ends
use Rattle.pj_view.specs.SetGraph.{graph_of}
use Rattle.pj_view.specs.ShownGraph.{graph_whole, graph_is_view}
use Rattle.pj_view.proofs.ViewEdges.{next_is}
use Rattle.pj_view.proofs.ViewPoints.{shown_last}
use Rattle.pj_output.specs.Targets.{IsNext, LeadsTo}
use Rattle.pj_output.proofs.JoinedLive.{shown, shown_vertex}
use Rattle.pj_output.proofs.NextPoints.{next_told, lesser_told, rows_told}
use Rattle.pj_output.proofs.targets.next_target.Goals as goal

pub returns-clause-next : goal.returns-clause-next
returns-clause-next c =
    let S = c.args.tables.now in
    let lawful = c.list-list.ensures.lawful in
    let u = c.args.u.now in
    let rows = c.args.pseudo.now in
    let edges = c.args.walk.now in
    let after = c.args.after in
    let along = c.next_target-along.result in
    let last = c.last_point-last.ensures in
    let is = shown_vertex S lawful u c.requires.text in
    let found = subst (λ (p : Point). MatchOption along (ends.IsNoTarget edges (placed.At p) after) (λ target. ends.IsNextTarget edges (placed.At p) after target)) last c.next_target-along.ensures.next in
    let outs : along ≡ next_above ((graph_of S).outs (first_point u)) after =
    next_is S lawful (graph_of S) (graph_whole S) (graph_is_view S lawful) edges c.requires.edges (first_point u) (last_point u) is
    (shown_last S (lawful_one_text S (set_of S lawful)) u (shown S u c.requires.text)) after along found in
    let leads : IsNext (Contains ((graph_of S).outs (first_point u))) after along =
    subst (IsNext (Contains ((graph_of S).outs (first_point u))) after) (sym outs) (next_told ((graph_of S).outs (first_point u)) after ((graph_whole S).outs_rise (first_point u) is)) in
    let across : IsNext (Leads rows (last_point u)) after c.next.result =
    rows_told rows (last_point u) after c.next.result (subst (λ (p : Point). MatchOption c.next.result (IsNoTarget rows p after) (IsNextTarget rows p after)) last c.next.ensures) in
    subst (IsNext (LeadsTo S rows u) after) (sym c.lesser.ensures)
    (lesser_told (Contains ((graph_of S).outs (first_point u))) (Leads rows (last_point u)) after along c.next.result leads across)
