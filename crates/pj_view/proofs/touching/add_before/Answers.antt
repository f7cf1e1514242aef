use Rattle.std.proofs.Common.{◌≡◌}
use Rattle.pj_change.specs.declared.point.Point.{Point}
use Rattle.pj_view.specs.Added.{IsBefore}
use Rattle.pj_view.proofs.Additions.{member_stays, none_yet, fewer_added, one_added, one_more, all_added}
use Rattle.pj_view.proofs.TouchedParts.{just_before}
use Rattle.pj_view.proofs.touching.add_before.Goals as goal

pub loop-at-init : goal.loop-at-init
loop-at-init c = none_yet c.args.cuts.now IsBefore c.args.points.now.items

pub loop-at-preserved : goal.loop-at-preserved
loop-at-preserved c =
    let at = c.at-item.result in
    let before : Point = record { change = at.change; offset = c.saturating_sub.result } in
    one_more member_stays c.args.cuts.now IsBefore c.args.points.now.items c.loop-at.points.items _ c.loop-at.at-index at c.loop-at-test.true c.at-item.is c.loop-at.invariant
    (fewer_added c.loop-at.points.items _ (λ q. before ≡ q) (IsBefore at)
    (λ p k. (let same : before ≡ p = rw c.saturating_sub.ensures (just_before at p k) in same)) (one_added c.loop-at.points.items _ before c.in_ok-push.ensures.items))

pub returns : goal.returns
returns c = all_added c.args.cuts.now IsBefore c.args.points.now.items c.loop-at.points.items c.loop-at.at-index c.loop-at-test.false c.loop-at.invariant
