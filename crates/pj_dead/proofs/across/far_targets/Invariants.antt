use Rattle.std.proofs.Common.{take, []}
use Rattle.pj_change.specs.Gathers.{Gathers, IsOfOne}
use Rattle.pj_dead.specs.PointGraphs.{IsEdge, IsLive}
use Rattle.pj_dead.specs.Known.{AreKnown}
use Rattle.pj_dead.proofs.across.far_targets.Given as goal

abbrev pub invariant-loop-end : goal.invariant-loop-end
invariant-loop-end g l = let h = g.V.View.graph l.view in record {
  list : Gathers (IsOfOne (λ e z. IsEdge h e z × IsLive h z) (take l.end-index l.end-items)) [] l.list.items;
  known : AreKnown h l.known;
}
