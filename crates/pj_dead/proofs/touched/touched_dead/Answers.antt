use Rattle.std.proofs.Common.{◌↔◌, sym, subst, List, [], arith}
use Rattle.std.specs.Prelude.{Contains}
use Rattle.pj_change.specs.declared.point.Point.{Point}
use Rattle.pj_change.specs.Gathers.{Gathers, IsOfOne}
use Rattle.pj_change.proofs.Gathering.{gathers_none, of_none, of_more, of_all, gathered}
use Rattle.pj_dead.proofs.TouchedRows.{IsDeadAt, touched_dead}
use Rattle.pj_dead.proofs.touched.touched_dead.Goals as goal

pub loop-point-init : goal.loop-point-init
loop-point-init g c =
    let P = IsDeadAt (g.V.View.graph c.args.view.now) in
    record { dead = subst (λ (l : List Point). Gathers (IsOfOne P []) [] l) (sym c.new-dead.ensures.items) (gathers_none (IsOfOne P []) [] (of_none P)); known = c.requires }

pub loop-point-preserved : goal.loop-point-preserved
loop-point-preserved g c =
    let point = c.point-item.result in
    record {
      dead = of_more (IsDeadAt (g.V.View.graph c.args.view.now)) c.args.touched.now c.loop-point.point-index point point c.loop-point-test.true c.point-item.is [] c.loop-point.dead.items c.add_dead.new.dead.items c.loop-point.invariant.dead c.in_ok-add_dead.ensures.dead;
      known = c.in_ok-add_dead.ensures.known;
    }

pub returns-clause-dead : goal.returns-clause-dead
returns-clause-dead g c =
    let h = g.V.View.graph c.args.view.now in
    let touched = c.args.touched.now in
    let dead = c.loop-point.dead.items in
    let P = IsDeadAt h in
    let all = of_all P touched c.loop-point.point-index (omega arith) [] dead c.loop-point.invariant.dead in
    λ v.
    let same : Contains c.in_ok-found.found v ↔ Contains dead v = rw (← c.deref.ensures.value) (c.in_ok-found.ensures v) in
    (λ m. (touched_dead h touched v).0 (gathered (IsOfOne P touched) dead all v (same.0 m)), λ t. same.1 (all.all v ((touched_dead h touched v).1 t)))
