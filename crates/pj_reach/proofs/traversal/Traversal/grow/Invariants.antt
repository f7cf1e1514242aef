use Rattle.std.proofs.Common.{◌≡◌, ℕ, ◌+◌, List, length, slice_index}
use Rattle.pj_reach.specs.Traversals.{IsTraversal, HasTrees, work}
use Rattle.pj_reach.proofs.traversal.Traversal.grow.Given as goal

abbrev pub invariant-loop-vertex : goal.invariant-loop-vertex
invariant-loop-vertex l = record {
  traversal : IsTraversal (length l.links.last.items) l.edges l.self;
  trees : (roots : List ℕ) (tried : ℕ) → HasTrees (length l.links.last.items) l.edges roots tried l.tree l.fn.self → slice_index roots tried ≡ l.root → HasTrees (length l.links.last.items) l.edges roots (tried + 1) (l.tree + 1) l.self;
}

abbrev pub decreases-loop-vertex : goal.decreases-loop-vertex
decreases-loop-vertex l = work l.self
