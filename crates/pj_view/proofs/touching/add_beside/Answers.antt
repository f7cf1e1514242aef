use Rattle.std.proofs.Common.{◌∙◌, subst, sym}
use Rattle.std.proofs.lemmas.Result.{IfOk-weaker}
use Rattle.pj_view.specs.Added.{HasAdded, IsBesideAt, IsNeighbour}
use Rattle.pj_view.specs.SetGraph.{graph_of}
use Rattle.pj_view.specs.ShownGraph.{graph_whole, graph_is_view}
use Rattle.pj_view.proofs.Additions.{none_added, fewer_added}
use Rattle.pj_view.proofs.TouchedParts.{beside_shown, none_beside}
use Rattle.pj_view.proofs.touching.add_beside.Goals as goal

pub add_neighbours-requires : goal.add_neighbours-requires
add_neighbours-requires c = (((graph_whole c.args.view.now).ranges c.args.at c.in-Some.vertex).0 (sym c.first.ensures ∙ c.in-Some.is)).0

pub returns-in-Some : goal.returns-in-Some
returns-in-Some c =
    let S = c.args.view.now in
    let lawful = c.list-list.ensures.lawful in
    let v = c.in-Some.vertex in
    let ins_too = c.eq.result in
    let old = c.args.points.now.items in
    let new = c.add_neighbours.new.points.items in
    IfOk-weaker c.add_neighbours.result (λ done. HasAdded old new (IsNeighbour S v ins_too)) (λ done. HasAdded old new (IsBesideAt S c.args.at))
    (λ done h. fewer_added old new (IsNeighbour S v ins_too) (IsBesideAt S c.args.at)
    (λ p b. subst (λ t. IsNeighbour S v t p) (sym c.eq.ensures) (beside_shown S lawful (graph_of S) (graph_whole S) (graph_is_view S lawful) c.args.at v (sym c.in-Some.is ∙ c.first.ensures) p b)) h) c.add_neighbours.ensures

pub returns-in-None : goal.returns-in-None
returns-in-None c =
    let S = c.args.view.now in
    let lawful = c.list-list.ensures.lawful in
    none_added c.args.points.now.items (IsBesideAt S c.args.at) (none_beside S lawful (graph_of S) (graph_whole S) (graph_is_view S lawful) c.args.at (sym c.in-None.is ∙ c.first.ensures))
