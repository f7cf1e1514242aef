use Rattle.std.proofs.Common.{◌≡◌, length, get_or, refl, sym, ◌∙◌, subst, arith}
use Rattle.pj_reach.specs.Traversals.{IsTraversal, HasTrees}
use Rattle.pj_reach.proofs.Forests.{root_seen, whole_forest, new_traversal, new_trees}
use Rattle.pj_reach.proofs.traversal.search.Goals as goal
use Rattle.pj_reach.proofs.traversal.search.Goals.{then-not-has_seen+in_ok-grow, else-not-has_seen}

pub loop-root-init : goal.loop-root-init
loop-root-init c = rw (c.in_ok-traversal.ensures, c.requires.linked.last_len) (record {
  traversal = new_traversal c.args.size c.args.edges.now c.args.links.now.last.items c.args.links.now.earlier.items c.requires.linked;
  at_rest = refl;
  trees = new_trees c.args.size c.args.edges.now c.args.links.now.last.items c.args.links.now.earlier.items c.requires.linked c.args.roots.now;
})

pub loop-root-preserved : goal.loop-root-preserved
loop-root-preserved c =
    elim c.if-not-has_seen.branch [
      | then-not-has_seen+in_ok-grow w ↦ rw (w.traversal-is, w.trees-is) (record {
        traversal = w.in_ok-grow.ensures.traversal;
        at_rest = w.in_ok-grow.ensures.at_rest;
        trees = w.in_ok-grow.ensures.trees c.args.roots.now c.loop-root.root-index c.loop-root.invariant.trees refl;
      })
      | else-not-has_seen w ↦ rw (w.traversal-is, w.trees-is) (record {
        traversal = c.loop-root.invariant.traversal;
        at_rest = c.loop-root.invariant.at_rest;
        trees = root_seen (length c.args.links.now.last.items) c.args.edges.now c.args.roots.now c.loop-root.root-index c.loop-root.trees (get_or c.args.roots.now c.loop-root.root-index 0) c.loop-root.traversal refl
            (let h = c.requires.roots_in c.loop-root.root-index c.loop-root-test.true in omega (arith, h, c.requires.linked.last_len))
            (sym c.has_seen.ensures ∙ w.if-not-has_seen.false)
            c.loop-root.invariant.trees;
      })
    ]

pub returns : goal.returns
returns c =
    let all : c.loop-root.root-index ≡ length c.args.roots.now = omega arith in
    let traversal : IsTraversal c.args.size c.args.edges.now c.loop-root.traversal = subst (λ n. IsTraversal n c.args.edges.now c.loop-root.traversal) c.requires.linked.last_len c.loop-root.invariant.traversal in
    let trees : HasTrees c.args.size c.args.edges.now c.args.roots.now (length c.args.roots.now) c.loop-root.trees c.loop-root.traversal =
    subst (λ n. HasTrees n c.args.edges.now c.args.roots.now (length c.args.roots.now) c.loop-root.trees c.loop-root.traversal) c.requires.linked.last_len
    (subst (λ k. HasTrees (length c.args.links.now.last.items) c.args.edges.now c.args.roots.now k c.loop-root.trees c.loop-root.traversal) all c.loop-root.invariant.trees) in
    rw (c.into_forest.ensures.trees, c.into_forest.ensures.finished) (whole_forest c.args.size c.args.edges.now c.args.roots.now c.loop-root.trees c.loop-root.traversal c.requires.each_is_root traversal c.loop-root.invariant.at_rest trees)
