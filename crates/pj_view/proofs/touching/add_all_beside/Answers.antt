use Rattle.pj_view.specs.Added.{IsBesideAt}
use Rattle.pj_view.proofs.Additions.{member_stays, none_yet, one_more, all_added}
use Rattle.pj_view.proofs.touching.add_all_beside.Goals as goal

pub loop-at-init : goal.loop-at-init
loop-at-init c = none_yet c.args.starts.now (IsBesideAt c.args.view.now) c.args.points.now.items

pub loop-at-preserved : goal.loop-at-preserved
loop-at-preserved c =
    one_more member_stays c.args.starts.now (IsBesideAt c.args.view.now) c.args.points.now.items c.loop-at.points.items _ c.loop-at.at-index c.at-item.result c.loop-at-test.true c.at-item.is c.loop-at.invariant c.in_ok-add_beside.ensures

pub returns : goal.returns
returns c = all_added c.args.starts.now (IsBesideAt c.args.view.now) c.args.points.now.items c.loop-at.points.items c.loop-at.at-index c.loop-at-test.false c.loop-at.invariant
