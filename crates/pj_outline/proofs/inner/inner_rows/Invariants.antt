use Rattle.std.proofs.Common.{◌≡◌, map, take}
use Rattle.pj_edges.specs.OwnRows.{row_before}
use Rattle.pj_outline.proofs.inner.inner_rows.Given as goal

-- the rows of the first points are there
abbrev pub invariant-loop-point : goal.invariant-loop-point
invariant-loop-point l = record { rows : l.rows.items ≡ map row_before (take l.point-index l.points) }
