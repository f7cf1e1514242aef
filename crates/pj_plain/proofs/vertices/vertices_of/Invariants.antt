use Rattle.std.proofs.Common.{[], take}
use Rattle.pj_change.specs.Gathers.{Gathers, IsOfOne}
use Rattle.pj_change.specs.GraphParts.{IsVertexOf}
use Rattle.pj_change.specs.Shared.{records}
use Rattle.pj_plain.proofs.vertices.vertices_of.Given as goal

-- the vertices of the first changes are added
abbrev pub invariant-loop-owner : goal.invariant-loop-owner
invariant-loop-owner l = Gathers (IsOfOne (IsVertexOf (records l.changes)) (take l.owner-index (records l.changes))) [] l.vertices.items
