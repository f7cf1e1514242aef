use Rattle.std.proofs.Common.{◌-◌, ◌+◌, ◌*◌, map, take}
use Rattle.pj_change.specs.Layout.{AreLayouts}
use Rattle.pj_layout.specs.Orders.{Before}
use Rattle.pj_layout.specs.Shapes.{shape, shapes_of}
use Rattle.pj_layout.proofs.sets.+lay.Given as goal

-- a set at a depth comes before the sets that it is parted into, one deeper
abbrev pub decreases-lay_set : goal.decreases-lay_set
decreases-lay_set l = 2 * (64 - l.depth)

abbrev pub decreases-lay_sets : goal.decreases-lay_sets
decreases-lay_sets l = 2 * (64 - l.depth) + 1

abbrev pub invariant-lay_sets-loop-set : goal.invariant-lay_sets-loop-set
invariant-lay_sets-loop-set l = AreLayouts (Before l.order.before.now) l.depth (map (λ set. set.items) (take l.set-index l.sets)) (shapes_of (map shape l.layouts.items))
