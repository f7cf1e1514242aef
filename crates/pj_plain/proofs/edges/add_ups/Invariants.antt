use Rattle.std.proofs.Common.{take}
use Rattle.pj_change.specs.Positions.{resolve}
use Rattle.pj_change.specs.RealEdges.{IsBlock}
use Rattle.pj_change.specs.Gathers.{Gathers, IsOfOne}
use Rattle.pj_change.specs.Shared.{records}
use Rattle.pj_plain.proofs.edges.add_ups.Given as goal

-- the edges of the first ups are added
abbrev pub invariant-loop-up : goal.invariant-loop-up
invariant-loop-up l = Gathers (IsOfOne (λ up. IsBlock (records l.changes) l.r (resolve l.r up) l.first) (take l.up-index l.ups)) l.initial.edges.items l.edges.items
