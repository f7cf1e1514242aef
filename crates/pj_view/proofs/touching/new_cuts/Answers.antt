use Rattle.std.proofs.Common.{◌∙◌, ap, sym, not}
use Rattle.pj_change.proofs.Members.{moved, no_member}
use Rattle.pj_view.specs.Added.{IsUncutAt, StandsToOne}
use Rattle.pj_view.proofs.Additions.{member_stays, none_yet, fewer_added, one_more, all_added}
use Rattle.pj_view.proofs.touching.new_cuts.Goals as goal

pub loop-at-init : goal.loop-at-init
loop-at-init c = none_yet c.args.cuts.now (IsUncutAt c.args.view.now) _

pub loop-at-preserved : goal.loop-at-preserved
loop-at-preserved c =
    let at = c.at-item.result in
    let P = IsUncutAt c.args.view.now in
    one_more member_stays c.args.cuts.now P _ c.loop-at.new.items _ c.loop-at.at-index at c.loop-at-test.true c.at-item.is c.loop-at.invariant
    (fewer_added c.loop-at.new.items _ _ (P at) (λ p k. (k.0, ap not (c.is_cut.ensures ∙ k.1))) c.in_ok-add_if.ensures)

pub returns : goal.returns
returns c =
    let P = StandsToOne c.args.cuts.now (IsUncutAt c.args.view.now) in
    let all = all_added c.args.cuts.now (IsUncutAt c.args.view.now) c.new-new.result.items c.loop-at.new.items c.loop-at.at-index c.loop-at-test.false c.loop-at.invariant in
    record {
      kept = λ p m. absurd (no_member p m);
      added = λ p s. moved p (sym c.into_points.ensures) ((c.in_ok-once.ensures p).1 (moved p (sym c.deref.ensures.value) (all.added p s)));
    }
