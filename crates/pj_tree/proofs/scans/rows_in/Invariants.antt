use Rattle.std.proofs.Common.{◌≡◌, ◌++◌, length, map}
use Rattle.pj_tree.specs.Maps.{rows_of, rows_from}
use Rattle.pj_tree.proofs.scans.rows_in.Given as goal

abbrev pub invariant-loop-next : goal.invariant-loop-next
invariant-loop-next l = map (λ r. r.now) l.rows.items ++ rows_of (rows_from l.pairs l.next) ≡ rows_of l.pairs

abbrev pub decreases-loop-next : goal.decreases-loop-next
decreases-loop-next l = length (rows_from l.pairs l.next)
