use Rattle.std.proofs.Common.{length}
use Rattle.pj_apply.specs.Walks.{remaining}
use Rattle.pj_output.proofs.ChangeWalks.{AreBefore}
use Rattle.pj_output.proofs.VertexLists.{IsOf}
use Rattle.pj_output.proofs.vertices.vertices_by_change.Given as goal

-- the vertices of the changes before the next one are added
abbrev pub invariant-loop-change : goal.invariant-loop-change
invariant-loop-change l = AreBefore (IsOf l.tables) l.tables (remaining l.tables l.after) l.vertices.items

abbrev pub decreases-loop-change : goal.decreases-loop-change
decreases-loop-change l = length (remaining l.tables l.after)
