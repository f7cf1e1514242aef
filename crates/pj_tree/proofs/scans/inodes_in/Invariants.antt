use Rattle.std.proofs.Common.{◌≡◌, ◌++◌, length}
use Rattle.pj_tree.specs.Maps.{inodes_of, inodes_from}
use Rattle.pj_tree.proofs.scans.inodes_in.Given as goal

abbrev pub invariant-loop-next : goal.invariant-loop-next
invariant-loop-next l = l.inodes.items ++ inodes_of (inodes_from l.pairs l.next) ≡ inodes_of l.pairs

abbrev pub decreases-loop-next : goal.decreases-loop-next
decreases-loop-next l = length (inodes_from l.pairs l.next)
