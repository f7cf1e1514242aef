use Rattle.pj_change.specs.Gathers.{Gathers}
use Rattle.pj_change.specs.GraphParts.{IsInner}
use Rattle.pj_change.specs.Shared.{records}
use Rattle.pj_plain.proofs.edges.add_inner.Given as goal

-- the edges to the vertices that begin below the position are added
abbrev pub invariant-loop-at : goal.invariant-loop-at
invariant-loop-at l = Gathers (IsInner (records l.changes) l.r l.first l.at) l.initial.edges.items l.edges.items
