use Rattle.std.proofs.Common.{length}
use Rattle.pj_reach.proofs.Numbers.{Numbers}
use Rattle.pj_reach.proofs.numbering.number.Given as goal

abbrev pub invariant-loop-tree : goal.invariant-loop-tree
invariant-loop-tree l = Numbers (length l.tree_of) l.tree_of l.tree-index l.number_of.items l.class_of.items l.classes
