use Rattle.std.proofs.Common.{◌≡◌, List, [], length, sym, subst, arith}
use Rattle.pj_change.specs.declared.graph.Edge.{Edge}
use Rattle.pj_change.specs.RealEdges.{IsEdge}
use Rattle.pj_change.specs.Gathers.{Gathers, IsOfOne}
use Rattle.pj_change.specs.GraphParts.{IsSaid}
use Rattle.pj_change.specs.Shared.{records}
use Rattle.pj_change.proofs.Gathering.{of_none, gathers_none, gathered}
use Rattle.pj_plain.proofs.Gathering.{of_more_shared, of_all_shared}
use Rattle.pj_change.proofs.GatheredEdges.{edges_gathered, edges_listed}
use Rattle.pj_change.proofs.EqualEdges.{edges_tied}
use Rattle.pj_plain.proofs.edges.edges_of.Goals as goal

pub loop-r-init : goal.loop-r-init
loop-r-init c =
    let S = records c.args.changes.now in
    subst (λ (l : List Edge). Gathers (IsOfOne (IsSaid S) []) [] l) (sym c.new-edges.ensures.items) (gathers_none (IsOfOne (IsSaid S) []) [] (of_none (IsSaid S)))

pub loop-r-preserved : goal.loop-r-preserved
loop-r-preserved c =
    of_more_shared (IsSaid (records c.args.changes.now)) c.args.changes.now c.loop-r.r-index c.r-item.result c.deref.result.now
    c.loop-r-test.true c.r-item.is c.deref.ensures [] c.loop-r.edges.items c.add_edges.new.edges.items c.loop-r.invariant c.in_ok-add_edges.ensures

pub list_edges-requires : goal.list_edges-requires
list_edges-requires c =
    let S = records c.args.changes.now in
    let new = c.loop-r.edges.items in
    let all : length c.args.changes.now ≡ c.loop-r.r-index = omega arith in
    let of_set = gathered (IsEdge S) new (edges_gathered S new (of_all_shared (IsSaid S) c.args.changes.now c.loop-r.r-index all [] new c.loop-r.invariant)) in
    λ e f m n tied. edges_tied S c.requires e f (of_set e m) (of_set f n) tied

pub returns : goal.returns
returns c =
    let S = records c.args.changes.now in
    let new = c.loop-r.edges.items in
    let all : length c.args.changes.now ≡ c.loop-r.r-index = omega arith in
    edges_listed S new c.list_edges.new.edges.items (edges_gathered S new (of_all_shared (IsSaid S) c.args.changes.now c.loop-r.r-index all [] new c.loop-r.invariant)) c.list_edges.ensures
