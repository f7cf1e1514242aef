use Rattle.std.proofs.Common.{◌≡◌, length, arith}
use Rattle.pj_reach.specs.Closure.{classes}
use Rattle.pj_marks.proofs.Grouping.{joined_in, none_grouped}
use Rattle.pj_marks.proofs.members.members.Goals as goal

pub loop-at-init : goal.loop-at-init
loop-at-init c =
    let each : length c.loop.members.items ≡ classes c.args.reached.now = omega arith in
    none_grouped c.args.reached.now (λ class. class.items) c.loop.members.items each c.loop.invariant.empty

pub loop-at-preserved : goal.loop-at-preserved
loop-at-preserved c =
    joined_in c.args.reached.now c.loop-at.at (λ class. class.items) c.loop-at.members.items c.class_of.result c.index_mut.result.now c.push-in-loop-at.new.self
    c.class_of.ensures.class c.class_of.ensures.below c.loop-at.invariant c.index_mut.ensures.value c.in_ok-push-2.ensures.items
