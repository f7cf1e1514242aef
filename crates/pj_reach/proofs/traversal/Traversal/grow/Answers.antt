use Rattle.std.proofs.Common.{◌≡◌, ◌+◌, length, sym, ap, subst, arith}
use Rattle.pj_reach.specs.Traversals.{State, HasTrees}
use Rattle.pj_reach.proofs.Traversing.{state, enter_traversal, enter_root}
use Rattle.pj_reach.proofs.traversal.Traversal.grow.Goals as goal

pub loop-vertex-init : goal.loop-vertex-init
loop-vertex-init c =
    let none : length c.args.self.now.path ≡ 0 = ap length c.requires.at_rest in
    rw c.in_ok-enter.ensures (record {
      traversal = enter_traversal (length c.args.links.now.last.items) c.args.edges.now c.args.self.now.seen c.args.self.now.tree_of c.args.self.now.next c.args.self.now.path c.args.self.now.finished c.args.root c.args.tree c.requires.root_in c.requires.unseen c.requires.traversal (λ i h. absurd (omega (arith, none, h)));
      trees = λ roots tried was is_root. enter_root (length c.args.links.now.last.items) c.args.edges.now c.args.self.now.seen c.args.self.now.tree_of c.args.self.now.next c.args.self.now.path c.args.self.now.finished c.args.root c.args.tree c.requires.root_in c.requires.unseen roots tried is_root c.requires.at_rest c.requires.traversal was;
    })

pub loop-vertex-preserved : goal.loop-vertex-preserved
loop-vertex-preserved c = record {
  traversal = c.in_ok-step.ensures.traversal;
  trees = λ roots tried was is_root.
      let so_far : HasTrees (length c.args.links.now.last.items) c.args.edges.now roots (tried + 1) (c.args.tree + 1) (state c.self.inside.seen.items c.self.inside.tree_of.items c.self.inside.next.items c.self.inside.path.items c.self.inside.finished.items) =
      subst (λ (s : State). HasTrees (length c.args.links.now.last.items) c.args.edges.now roots (tried + 1) (c.args.tree + 1) s) (sym c.self.view_is) (c.loop-vertex.invariant.trees roots tried was is_root) in
      c.in_ok-step.ensures.trees roots (tried + 1) (rw c.in-Some.ensures.items at so_far);
}
