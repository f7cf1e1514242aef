use Rattle.std.proofs.Common.{◌≡◌, ◌≤◌, ◌+◌, ◌*◌, ◌||◌, take}
use Rattle.std.specs.List.{list_any}
use Rattle.pj_change.specs.declared.row.EdgeRow.{EdgeRow}
use Rattle.pj_edges.specs.Orders.{same_row}
use Rattle.pj_edges.specs.Rows.{has_row}
use Rattle.pj_edges.proofs.edges.EdgeRows.with_rows.Given as goal

abbrev pub invariant-loop-row : goal.invariant-loop-row
invariant-loop-row g l = record {
  rows : (q : EdgeRow) → has_row l.now q ≡ (list_any (same_row q) (take l.row-index l.rows) || has_row l.fn.self q);
  cost : l.steps ≤ l.fn.steps + 2 * l.row-index;
}
