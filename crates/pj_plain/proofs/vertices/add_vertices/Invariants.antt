use Rattle.std.proofs.Common.{◌<◌}
use Rattle.pj_change.specs.Gathers.{Gathers}
use Rattle.pj_change.specs.GraphParts.{IsVertexOf}
use Rattle.pj_change.specs.Shared.{records}
use Rattle.pj_plain.proofs.vertices.add_vertices.Given as goal

-- the vertices that begin below the position are added
abbrev pub invariant-loop-start : goal.invariant-loop-start
invariant-loop-start l = Gathers (λ v. (v.start < l.start) × IsVertexOf (records l.changes) l.owner v) l.initial.vertices.items l.vertices.items
