use Rattle.std.proofs.Common.{◌≡◌, [], length}
use Rattle.pj_reach.specs.Traversals.{IsTraversal, HasTrees}
use Rattle.pj_reach.proofs.traversal.search.Given as goal

abbrev pub invariant-loop-root : goal.invariant-loop-root
invariant-loop-root l = record {
  traversal : IsTraversal (length l.links.last.items) l.edges l.traversal;
  at_rest : l.traversal.path ≡ [];
  trees : HasTrees (length l.links.last.items) l.edges l.roots l.root-index l.trees l.traversal;
}
