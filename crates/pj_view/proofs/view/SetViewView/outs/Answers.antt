use Rattle.std.proofs.Common.{◌≡◌, ◌∙◌, refl, List, Some, None, arith, ◌<◌, length, length-append}
use Rattle.pj_change.specs.declared.point.Point.{Point}
use Rattle.pj_dead.specs.PointGraphs.{next_above}
use Rattle.pj_dead.specs.Searches.{IsWalked}
use Rattle.pj_dead.proofs.Walking.{walk_starts, walk_on, walk_ends, walk_less}
use Rattle.pj_view.specs.SetGraph.{graph_of}
use Rattle.pj_view.specs.ShownGraph.{graph_whole, graph_is_view}
use Rattle.pj_view.proofs.ViewEdges.{next_is}
use Rattle.pj_view.proofs.view.SetViewView.outs.Goals as goal

pub loop-next-init : goal.loop-next-init
loop-next-init c =
    let S = c.args.self.now in
    let lawful = c.list-list.ensures.lawful in
    record {
      same = refl;
      walked = rw c.new-outs.ensures.items (walk_starts ((graph_of S).outs c.args.at) c.next_target-next.result
          (next_is S lawful (graph_of S) (graph_whole S) (graph_is_view S lawful) c.edges-edges.result.now c.edges-edges.ensures c.args.at c.last_of.result c.requires c.last_of.ensures None c.next_target-next.result
          (rw c.walk_out-walk.ensures at c.next_target-next.ensures.next)));
    }

pub loop-next-preserved : goal.loop-next-preserved
loop-next-preserved c =
    let S = c.args.self.now in
    let lawful = c.list-list.ensures.lawful in
    let all : List Point = (graph_of S).outs c.args.at in
    let w : IsWalked all c.loop-next.outs.items (Some c.in-Some.target) = rw c.in-Some.is at c.loop-next.invariant.walked in
    let next : c.next_target-next-in-Some.result ≡ next_above all (Some c.in-Some.target) =
    next_is S lawful (graph_of S) (graph_whole S) (graph_is_view S lawful) c.edges-edges.result.now c.edges-edges.ensures c.args.at c.last_of.result c.requires c.last_of.ensures (Some c.in-Some.target) c.next_target-next-in-Some.result
    (rw (c.loop-next.invariant.same ∙ c.next_target-next.ensures.same ∙ c.walk_out-walk.ensures) at c.next_target-next-in-Some.ensures.next) in
    record {
      same = c.next_target-next-in-Some.ensures.same ∙ c.loop-next.invariant.same;
      walked = rw (c.in_ok-push.ensures.items, next) (walk_on all c.loop-next.outs.items c.in-Some.target ((graph_whole S).outs_rise c.args.at c.requires) w);
    }

pub loop-next-smaller : goal.loop-next-smaller
loop-next-smaller c =
    let all : List Point = (graph_of c.args.self.now).outs c.args.at in
    let w : IsWalked all c.loop-next.outs.items (Some c.in-Some.target) = rw c.in-Some.is at c.loop-next.invariant.walked in
    let low : length c.loop-next.outs.items < length all = walk_less all c.loop-next.outs.items c.in-Some.target w in
    rw c.in_ok-push.ensures.items (omega (arith, low, length-append {A = Point}))

pub returns : goal.returns
returns c =
    let all : List Point = (graph_of c.args.self.now).outs c.args.at in
    let w : IsWalked all c.loop-next.outs.items None = rw c.in_default.is at c.loop-next.invariant.walked in
    walk_ends all c.loop-next.outs.items w
