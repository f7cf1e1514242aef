use Rattle.std.proofs.Common.{[], take}
use Rattle.pj_change.specs.Gathers.{Gathers, IsOfOne}
use Rattle.pj_change.specs.GraphParts.{IsSaid}
use Rattle.pj_change.specs.Shared.{records}
use Rattle.pj_plain.proofs.edges.edges_of.Given as goal

-- the edges of the first changes are added
abbrev pub invariant-loop-r : goal.invariant-loop-r
invariant-loop-r l = Gathers (IsOfOne (IsSaid (records l.changes)) (take l.r-index (records l.changes))) [] l.edges.items
