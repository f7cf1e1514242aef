use Rattle.pj_view.specs.Added.{IsDeadAt}
use Rattle.pj_view.proofs.Additions.{member_stays, none_yet, one_more, all_added}
use Rattle.pj_view.proofs.touching.with_dead.Goals as goal

pub loop-at-init : goal.loop-at-init
loop-at-init c = none_yet c.args.list.now (IsDeadAt c.args.view.now) c.args.points

pub loop-at-preserved : goal.loop-at-preserved
loop-at-preserved c =
    one_more member_stays c.args.list.now (IsDeadAt c.args.view.now) c.args.points c.loop-at.points _ c.loop-at.at-index c.at-item.result c.loop-at-test.true c.at-item.is c.loop-at.invariant c.in_ok-points.ensures

pub returns : goal.returns
returns c = all_added c.args.list.now (IsDeadAt c.args.view.now) c.args.points c.loop-at.points c.loop-at.at-index c.loop-at-test.false c.loop-at.invariant
