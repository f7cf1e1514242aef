use Rattle.std.proofs.Common.{◌≡◌, ◌∙◌, ◌<◌, refl, sym, subst, arith, length, length-append}
use Rattle.pj_change.specs.declared.point.Point.{Point}
use Rattle.pj_view.specs.SetGraph.{graph_of}
use Rattle.pj_view.specs.ShownGraph.{graph_whole, graph_is_view}
use Rattle.pj_view.proofs.SourceWalks.{IsFollowed, followed_starts, followed_on, followed_less, followed_stops, followed_ends}
use Rattle.pj_view.proofs.view.SetViewView.ins.Goals as goal

pub loop-next-init : goal.loop-next-init
loop-next-init c =
    let S = c.args.self.now in
    record {
      same = refl;
      followed = rw (c.next_source-next.ensures.same ∙ c.walk_into-walk.ensures, c.new-ins.ensures.items) (followed_starts S (graph_of S) c.edges-edges.result.now c.args.at c.next_source-next.result (rw c.walk_into-walk.ensures at c.next_source-next.ensures.next));
    }

pub loop-next-preserved : goal.loop-next-preserved
loop-next-preserved c =
    let S = c.args.self.now in
    let g = graph_of S in
    let lawful = c.list-list.ensures.lawful in
    let e = c.edges-edges.result.now in
    let start : c.next_source-next.new.walk ≡ e = c.next_source-next.ensures.same ∙ c.walk_into-walk.ensures in
    let list = c.loop-next.ins.items in
    let source = c.in-Some.source in
    let w = subst (IsFollowed S g e c.args.at list) c.in-Some.is (rw start at c.loop-next.invariant.followed) in
    record {
      same = c.next_source-next-in-Some.ensures.same ∙ c.loop-next.invariant.same;
      followed = rw (start, c.in_ok-push.ensures.items) (followed_on S lawful g (graph_whole S) (graph_is_view S lawful) e c.edges-edges.ensures c.args.at c.requires list source w c.in-Some-vertex_at.from (sym c.in-Some-vertex_at.is ∙ c.vertex_at.ensures) c.next_source-next-in-Some.result
          (rw (c.loop-next.invariant.same ∙ start) at c.next_source-next-in-Some.ensures.next));
    }

pub loop-next-smaller : goal.loop-next-smaller
loop-next-smaller c =
    let S = c.args.self.now in
    let g = graph_of S in
    let lawful = c.list-list.ensures.lawful in
    let e = c.edges-edges.result.now in
    let start : c.next_source-next.new.walk ≡ e = c.next_source-next.ensures.same ∙ c.walk_into-walk.ensures in
    let list = c.loop-next.ins.items in
    let w = subst (IsFollowed S g e c.args.at list) c.in-Some.is (rw start at c.loop-next.invariant.followed) in
    let low : length list < length (g.ins c.args.at) =
    followed_less S lawful g (graph_whole S) (graph_is_view S lawful) e c.edges-edges.ensures c.args.at c.requires list c.in-Some.source w c.in-Some-vertex_at.from (sym c.in-Some-vertex_at.is ∙ c.vertex_at.ensures) in
    rw c.in_ok-push.ensures.items (omega (arith, low, length-append {A = Point}))

pub returns-in_default-vertex_at : goal.returns-in_default-vertex_at
returns-in_default-vertex_at c =
    let S = c.args.self.now in
    let g = graph_of S in
    let lawful = c.list-list.ensures.lawful in
    let e = c.edges-edges.result.now in
    let start : c.next_source-next.new.walk ≡ e = c.next_source-next.ensures.same ∙ c.walk_into-walk.ensures in
    let list = c.loop-next.ins.items in
    let w = subst (IsFollowed S g e c.args.at list) c.in-Some.is (rw start at c.loop-next.invariant.followed) in
    followed_stops S lawful g (graph_whole S) (graph_is_view S lawful) e c.edges-edges.ensures c.args.at c.requires list c.in-Some.source w (sym c.in_default-vertex_at.is ∙ c.vertex_at.ensures)

pub returns : goal.returns
returns c =
    let S = c.args.self.now in
    let g = graph_of S in
    let lawful = c.list-list.ensures.lawful in
    let e = c.edges-edges.result.now in
    let start : c.next_source-next.new.walk ≡ e = c.next_source-next.ensures.same ∙ c.walk_into-walk.ensures in
    followed_ends S lawful g (graph_whole S) (graph_is_view S lawful) e c.edges-edges.ensures c.args.at c.requires c.loop-next.ins.items
    (subst (IsFollowed S g e c.args.at c.loop-next.ins.items) c.in_default.is (rw start at c.loop-next.invariant.followed))
