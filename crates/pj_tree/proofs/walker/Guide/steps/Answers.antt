use Rattle.std.proofs.Common.{refl, ◌∙◌}
use Rattle.pj_tree.proofs.Flags.{none_seen}
use Rattle.pj_tree.proofs.Wholes.{whole_walk}
use Rattle.pj_tree.proofs.walker.Guide.steps.Goals as goal

pub walk-requires-clause-marked : goal.walk-requires-clause-marked
walk-requires-clause-marked g c = rw c.new.ensures.items (c.in_ok-vec.ensures.items_if_clones_equal (λ y e. e) ∙ none_seen c.args.self.now.inodes.now)

pub returns : goal.returns
returns g c N of same =
    rw c.of.ensures
    (whole_walk N c.args.self.now c.requires.sound of (g.V.Lives.live c.args.lives.now) same _ _ _ _ c.new-2.ensures.items c.children.ensures refl
    (rw c.new.ensures.items at c.in_ok-walk.ensures.visited) c.in_ok-visit_orphans.ensures.orphans c.in_ok-visit_adrift.ensures)
