use Rattle.std.proofs.Common.{◌≡◌, sym, ◌∙◌, arith, []}
use Rattle.std.specs.Prelude.{not}
use Rattle.pj_change.proofs.Gathering.{of_more, of_all}
use Rattle.pj_dead.specs.PointGraphs.{IsVertex, IsDead, IsLive}
use Rattle.std.proofs.lemmas.List.Elements.{Contains-get_or}
use Rattle.std.proofs.Common.{subst}
use Rattle.std.specs.Prelude.{Contains}
use Rattle.pj_dead.proofs.Knowing.{wanted_one, not_true, true_not, one_side}
use Rattle.pj_dead.proofs.known.split.Goals as goal

pub loop-point-preserved : goal.loop-point-preserved
loop-point-preserved g c =
    let h = g.V.View.graph c.args.view.now in
    let points = c.args.points.now in
    let point = c.point-item.result in
    let gone = c.in_ok-gone.gone in
    let there : IsVertex h point = c.requires.vertices point (subst (Contains points) (sym c.point-item.is) (Contains-get_or points c.loop-point.point-index point c.loop-point-test.true)) in
    record {
      live = of_more (λ a z. IsLive h a × (a ≡ z)) points c.loop-point.point-index point point c.loop-point-test.true c.point-item.is [] c.loop-point.live.items c.add_if-in-loop-point.new.list.items c.loop-point.invariant.live
          (wanted_one (IsLive h) point (not gone) (λ t. record { vertex = there; live = sym c.in_ok-gone.ensures.is ∙ not_true gone t }) (λ l. true_not gone (c.in_ok-gone.ensures.is ∙ l.live)) c.loop-point.live.items c.add_if-in-loop-point.new.list.items c.in_ok-add_if-2.ensures);
      dead = of_more (λ a z. IsDead h a × (a ≡ z)) points c.loop-point.point-index point point c.loop-point-test.true c.point-item.is [] c.loop-point.dead.items c.add_if.new.list.items c.loop-point.invariant.dead
          (wanted_one (IsDead h) point gone (λ t. record { vertex = there; dead = sym c.in_ok-gone.ensures.is ∙ t }) (λ d. c.in_ok-gone.ensures.is ∙ d.dead) c.loop-point.dead.items c.add_if.new.list.items c.in_ok-add_if.ensures);
      known = c.in_ok-gone.ensures.known;
    }

pub returns-clause-sides : goal.returns-clause-sides
returns-clause-sides g c =
    let h = g.V.View.graph c.args.view.now in
    let points = c.args.points.now in
    let i = c.loop-point.point-index in
    record {
      live = one_side (IsLive h) points c.loop-point.live.items (of_all (λ a z. IsLive h a × (a ≡ z)) points i (omega arith) [] c.loop-point.live.items c.loop-point.invariant.live);
      dead = one_side (IsDead h) points c.loop-point.dead.items (of_all (λ a z. IsDead h a × (a ≡ z)) points i (omega arith) [] c.loop-point.dead.items c.loop-point.invariant.dead);
    }
