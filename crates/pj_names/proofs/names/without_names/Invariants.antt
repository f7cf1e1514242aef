use Rattle.std.proofs.Common.{◌≡◌, ◌≤◌, ◌+◌, ◌*◌, [], ◌∷◌, ◌++◌}
use Rattle.pj_change.specs.Positions.{place}
use Rattle.pj_tree.proofs.GatheredRows.{IsRowBelow}
use Rattle.pj_names.specs.Given.{IsAtInodeBelow, Leaves}
use Rattle.pj_names.proofs.names.without_names.Given as goal

-- what the first hunks give is gone
abbrev pub invariant-loop-hunk : goal.invariant-loop-hunk
invariant-loop-hunk g l = record {
  place : l.first ≡ place l.record.change.hunks l.hunk-index;
  rows : Leaves (IsRowBelow (g.P.Peers.records l.others ++ l.record ∷ []) l.record l.hunk-index) l.tree.rows l.now.rows;
  inodes : Leaves (IsAtInodeBelow l.record l.hunk-index) l.tree.inodes l.now.inodes;
  cost : l.steps ≤ l.fn.steps + 2 * l.hunk-index;
}
