use Rattle.pj_view.specs.Added.{IsCoveredAt}
use Rattle.pj_view.proofs.Additions.{entry_stays, none_yet, one_more, all_added}
use Rattle.pj_view.proofs.StretchSets.{no_stretches}
use Rattle.pj_view.proofs.touching.add_hunks_at.Goals as goal

pub loop-at-init : goal.loop-at-init
loop-at-init c = record {
  points = none_yet c.args.hunks.now (IsCoveredAt c.args.view.now) c.args.points.now.items;
  stretches = no_stretches c.args.view.now c.args.points.now.items c.new-added.result c.new-added.ensures.empty;
}

pub loop-at-preserved : goal.loop-at-preserved
loop-at-preserved c = record {
  points =
      one_more (entry_stays c.args.view.now) c.args.hunks.now (IsCoveredAt c.args.view.now) c.args.points.now.items c.loop-at.points.items _ c.loop-at.at-index c.at-item.result c.loop-at-test.true c.at-item.is
      c.loop-at.invariant.points c.in_ok-add_hunk_at.ensures.points;
  stretches = c.in_ok-add_hunk_at.ensures.stretches;
}

pub returns : goal.returns
returns c =
    all_added c.args.hunks.now (IsCoveredAt c.args.view.now) c.args.points.now.items c.loop-at.points.items c.loop-at.at-index c.loop-at-test.false c.loop-at.invariant.points
