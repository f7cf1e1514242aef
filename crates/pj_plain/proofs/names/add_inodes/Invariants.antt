use Rattle.std.proofs.Common.{◌≡◌, [], take}
use Rattle.pj_change.specs.Gathers.{Gathers, IsOfOne}
use Rattle.pj_tree.proofs.GatheredRows.{IsInodeOf}
use Rattle.pj_plain.proofs.names.add_inodes.Given as goal

-- the inodes among the first vertices are added
abbrev pub invariant-loop-vertex : goal.invariant-loop-vertex
invariant-loop-vertex g l = record {
  rows : l.tree.rows ≡ l.initial.tree.rows;
  inodes : Gathers (IsOfOne IsInodeOf (take l.vertex-index l.vertices)) [] l.tree.inodes;
}
