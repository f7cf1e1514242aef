use Rattle.std.proofs.Common.{◌≡◌, take}
use Rattle.pj_change.specs.Gathers.{Gathers, IsOfOne}
use Rattle.pj_dead.proofs.across.add_lasts.Given as goal

abbrev pub invariant-loop-vertex : goal.invariant-loop-vertex
invariant-loop-vertex g l = let h = g.V.View.graph l.view in Gathers (IsOfOne (λ v z. h.last v ≡ z) (take l.vertex-index l.vertices)) l.initial.list.items l.list.items
