use Rattle.std.proofs.Common.{◌≡◌}
use Rattle.pj_change.specs.Positions.{place}
use Rattle.pj_change.specs.Gathers.{Gathers}
use Rattle.pj_change.specs.Shared.{records}
use Rattle.pj_tree.proofs.GatheredRows.{IsRowBelow}
use Rattle.pj_plain.proofs.names.add_rows.Given as goal

-- the rows of the first hunks are added
abbrev pub invariant-loop-hunk : goal.invariant-loop-hunk
invariant-loop-hunk g l = record {
  place : l.first ≡ place l.r.change.hunks l.hunk-index;
  rows : Gathers (IsRowBelow (records l.changes) l.r l.hunk-index) l.initial.tree.rows l.tree.rows;
  inodes : l.tree.inodes ≡ l.initial.tree.inodes;
}
