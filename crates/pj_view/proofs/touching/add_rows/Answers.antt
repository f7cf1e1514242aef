use Rattle.pj_view.specs.Added.{IsOldEnd}
use Rattle.pj_view.proofs.Additions.{member_stays, none_yet, one_more, all_added}
use Rattle.pj_view.proofs.touching.add_rows.Goals as goal

pub loop-row-init : goal.loop-row-init
loop-row-init c = none_yet c.args.rows.now (IsOldEnd c.args.name) c.args.points.now.items

pub loop-row-preserved : goal.loop-row-preserved
loop-row-preserved c = one_more member_stays c.args.rows.now (IsOldEnd c.args.name) c.args.points.now.items c.loop-row.points.items _ c.loop-row.row-index c.row-item.result c.loop-row-test.true c.row-item.is c.loop-row.invariant c.in_ok-add_row.ensures

pub returns : goal.returns
returns c = all_added c.args.rows.now (IsOldEnd c.args.name) c.args.points.now.items c.loop-row.points.items c.loop-row.row-index c.loop-row-test.false c.loop-row.invariant
