use Rattle.std.proofs.Common.{◌↔◌, sym, arith, subst, List, []}
use Rattle.std.specs.Prelude.{Contains}
use Rattle.std.proofs.lemmas.List.Elements.{Contains-get_or}
use Rattle.pj_change.specs.declared.point.Point.{Point}
use Rattle.pj_change.specs.Gathers.{Gathers, IsOfOne}
use Rattle.pj_change.proofs.Gathering.{gathers_none, of_none, of_more, of_all, gathered}
use Rattle.pj_change.proofs.DeadPaths.{end_dead}
use Rattle.pj_dead.specs.PointGraphs.{IsEdge, IsDead, IsLive}
use Rattle.pj_dead.specs.DeadRows.{IsPathOverDead}
use Rattle.pj_dead.proofs.EntryRows.{target_leaves, leaves_target}
use Rattle.pj_dead.proofs.across.far_targets.Goals as goal

pub loop-end-init : goal.loop-end-init
loop-end-init g c =
    let h = g.V.View.graph c.args.view.now in
    let P : Point → Point → Type 0 = λ e z. IsEdge h e z × IsLive h z in
    record { list = subst (λ (l : List Point). Gathers (IsOfOne P []) [] l) (sym c.new-list.ensures.items) (gathers_none (IsOfOne P []) [] (of_none P)); known = c.in_ok-ends.ensures.known }

pub add_targets-requires-clause-vertex : goal.add_targets-requires-clause-vertex
add_targets-requires-clause-vertex g c =
    let h = g.V.View.graph c.args.view.now in
    let ends = c.points-end-items.result.now in
    let end = c.end-item.result in
    let there : Contains ends end = subst (Contains ends) (sym c.end-item.is) (Contains-get_or ends c.loop-end.end-index end c.loop-end-test.true) in
    let path : IsPathOverDead h c.args.at end = (c.in_ok-ends.ensures.reached end).0 (subst (λ (l : List Point). Contains l end) c.points-end-items.ensures there) in
    (end_dead {Step = IsEdge h} {Dead = IsDead h} {u = c.args.at} path).vertex

pub loop-end-preserved : goal.loop-end-preserved
loop-end-preserved g c =
    let h = g.V.View.graph c.args.view.now in
    let end = c.end-item.result in
    record { list = of_more (λ e z. IsEdge h e z × IsLive h z) c.points-end-items.result.now c.loop-end.end-index end end c.loop-end-test.true c.end-item.is [] c.loop-end.list.items c.add_targets.new.list.items c.loop-end.invariant.list c.in_ok-add_targets.ensures.targets; known = c.in_ok-add_targets.ensures.known }

pub returns-clause-targets : goal.returns-clause-targets
returns-clause-targets g c =
    let h = g.V.View.graph c.args.view.now in
    let ends = c.points-end-items.result.now in
    let P : Point → Point → Type 0 = λ e z. IsEdge h e z × IsLive h z in
    let all = of_all P ends c.loop-end.end-index (omega arith) [] c.loop-end.list.items c.loop-end.invariant.list in
    let are : (v : Point) → Contains ends v ↔ IsPathOverDead h c.args.at v = rw c.points-end-items.ensures c.in_ok-ends.ensures.reached in
    λ q. (λ m. target_leaves h c.args.at ends are q (gathered (IsOfOne P ends) c.loop-end.list.items all q m), λ l. all.all q (leaves_target h c.args.at ends are q l))
