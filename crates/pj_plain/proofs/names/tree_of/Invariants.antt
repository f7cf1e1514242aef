use Rattle.std.proofs.Common.{◌≡◌, [], take}
use Rattle.pj_change.specs.Gathers.{Gathers, IsOfOne}
use Rattle.pj_change.specs.Shared.{records}
use Rattle.pj_tree.specs.TreeOf.{IsRowOf}
use Rattle.pj_plain.proofs.names.tree_of.Given as goal

-- the rows of the first changes are added
abbrev pub invariant-loop-r : goal.invariant-loop-r
invariant-loop-r g l = record {
  rows : Gathers (IsOfOne (IsRowOf (records l.changes)) (take l.r-index (records l.changes))) [] l.tree.rows;
  inodes : l.tree.inodes ≡ [];
}
