use Rattle.pj_view.proofs.RangeWalks.{nothing_walked, text_walked, point_walked, all_walked}
use Rattle.pj_view.proofs.touching.add_stretch.Goals as goal

pub loop-offset-init : goal.loop-offset-init
loop-offset-init c = nothing_walked c.args.view.now c.args.stretch.change c.args.stretch.start c.args.points.now.items

pub loop-offset-preserved-in-Some : goal.loop-offset-preserved-in-Some
loop-offset-preserved-in-Some c =
    text_walked c.args.view.now c.args.stretch.change c.args.stretch.start c.args.points.now.items c.loop-offset.points.items _ c.loop-offset.offset c.loop-offset.invariant c.in_ok-push.ensures.items c.in-Some.ensures.0 _ c.in-Some.ensures.1

pub loop-offset-preserved : goal.loop-offset-preserved
loop-offset-preserved c =
    point_walked c.args.view.now c.args.stretch.change c.args.stretch.start c.args.points.now.items c.loop-offset.points.items _ c.loop-offset.offset c.loop-offset.invariant c.in_ok-push.ensures.items

pub returns : goal.returns
returns c = all_walked c.args.view.now c.args.stretch.change c.args.stretch.start c.args.points.now.items c.loop-offset.points.items c.loop-offset.offset c.args.stretch.end c.loop-offset-test.false c.loop-offset.invariant
