use Rattle.std.proofs.Common.{take}
use Rattle.pj_change.specs.declared.point.Place.TheVariants.{At}
use Rattle.pj_change.specs.Positions.{own_point, resolve}
use Rattle.pj_change.specs.RealEdges.{IsOrder}
use Rattle.pj_change.specs.Gathers.{Gathers, IsOfOne}
use Rattle.pj_plain.proofs.edges.add_downs.Given as goal

-- the edges to the first downs are added
abbrev pub invariant-loop-down : goal.invariant-loop-down
invariant-loop-down l = Gathers (IsOfOne (λ down. IsOrder l.r (At (own_point l.r l.last)) (resolve l.r down)) (take l.down-index l.downs)) l.initial.edges.items l.edges.items
