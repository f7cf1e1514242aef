use Rattle.std.proofs.Common.{◌-◌}
use Rattle.pj_tables.proofs.PointVertices.{AreUpto}
use Rattle.pj_tables.proofs.tables.Tables.vertices.Given as goal

-- the vertices before the offset, at which one begins
abbrev pub invariant-loop-vertex : goal.invariant-loop-vertex
invariant-loop-vertex l = AreUpto l.self l.change l.offset l.vertices.items

abbrev pub decreases-loop-vertex : goal.decreases-loop-vertex
decreases-loop-vertex l = 4294967296 - l.offset
