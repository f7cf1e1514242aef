use Rattle.std.proofs.Common.{◌≡◌, take, []}
use Rattle.pj_change.specs.Gathers.{Gathers, IsOfOne}
use Rattle.pj_dead.specs.PointGraphs.{IsDead, IsLive}
use Rattle.pj_dead.specs.Known.{AreKnown}
use Rattle.pj_dead.proofs.known.split.Given as goal

abbrev pub invariant-loop-point : goal.invariant-loop-point
invariant-loop-point g l = let h = g.V.View.graph l.view in record {
  live : Gathers (IsOfOne (λ a z. IsLive h a × (a ≡ z)) (take l.point-index l.points)) [] l.live.items;
  dead : Gathers (IsOfOne (λ a z. IsDead h a × (a ≡ z)) (take l.point-index l.points)) [] l.dead.items;
  known : AreKnown h l.known;
}
