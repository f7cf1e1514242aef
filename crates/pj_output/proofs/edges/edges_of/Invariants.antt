use Rattle.std.proofs.Common.{length}
use Rattle.pj_output.specs.Scans.{rows_from}
use Rattle.pj_output.proofs.EdgeLists.{AreScanned}
use Rattle.pj_output.proofs.edges.edges_of.Given as goal

-- the edges of the rows before the next one are there
abbrev pub invariant-loop-next : goal.invariant-loop-next
invariant-loop-next l = AreScanned l.tables l.rows.out l.edges.items l.next

abbrev pub decreases-loop-next : goal.decreases-loop-next
decreases-loop-next l = length (rows_from l.rows.out l.next)
