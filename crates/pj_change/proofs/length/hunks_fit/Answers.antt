use Rattle.std.proofs.Common.{◌≡◌, ◌+◌, length, sym, ◌∙◌, ap, rules, arith}
use Rattle.std.specs.Prelude.{sum_by, flat_map}
use Rattle.std.proofs.lemmas.Bool.{false≢true, leb-true, le-leb}
use Rattle.std.proofs.lemmas.List.{take_all}
use Rattle.std.proofs.lemmas.List.Sums.{sum_by_more, sum_by-take-le}
use Rattle.pj_change.specs.Text.{hunk_text}
use Rattle.pj_change.specs.Rules.{position_count, are_hunks}
use Rattle.pj_change.proofs.PlaceLemmas.{position_count-le}
use Rattle.pj_change.proofs.RuleLemmas.{are_hunks_step, are_hunks-take, length-flat_map}
use Rattle.pj_change.proofs.length.hunks_fit.Goals as goal

pub loop-hunk-init : goal.loop-hunk-init
unfolding are_hunks
loop-hunk-init c = search rules

pub returns-then-length-limit : goal.returns-then-length-limit
returns-then-length-limit c = (
  λ h. absurd (false≢true h),
  λ h. absurd (omega (arith, h.1, c.loop-hunk.invariant.so_far, sum_by-take-le (λ x. length (hunk_text x)) c.args.hunks.now c.loop-hunk.hunk-index, length-flat_map hunk_text c.args.hunks.now)),
)

pub returns-then-not-is_hunk : goal.returns-then-not-is_hunk
returns-then-not-is_hunk c =
    let here = are_hunks_step c.args.needs c.loop-hunk.first c.args.hunks.now c.loop-hunk.hunk-index c.hunk-item.result c.is_hunk.result
    c.loop-hunk-test.true c.hunk-item.is c.loop-hunk.invariant.first c.loop-hunk.invariant.rules c.is_hunk.ensures in (
      λ h. absurd (false≢true h),
      λ h. absurd (false≢true (sym c.if-not-is_hunk.true ∙ sym here ∙ are_hunks-take c.args.needs 0 c.args.hunks.now (c.loop-hunk.hunk-index + 1) h.0)),
    )

pub overflow_add-first : goal.overflow_add-first
overflow_add-first c = omega (arith, position_count-le c.hunk-item.result)

pub loop-hunk-preserved : goal.loop-hunk-preserved
loop-hunk-preserved c = record {
  first = omega (arith, sum_by_more position_count c.args.hunks.now c.loop-hunk.hunk-index c.hunk-item.result c.loop-hunk-test.true, ap position_count c.hunk-item.is);
  so_far = omega (arith, sum_by_more (λ h. length (hunk_text h)) c.args.hunks.now c.loop-hunk.hunk-index c.hunk-item.result c.loop-hunk-test.true, ap (λ h. length (hunk_text h)) c.hunk-item.is);
  rules = are_hunks_step c.args.needs c.loop-hunk.first c.args.hunks.now c.loop-hunk.hunk-index c.hunk-item.result c.is_hunk.result
      c.loop-hunk-test.true c.hunk-item.is c.loop-hunk.invariant.first c.loop-hunk.invariant.rules c.is_hunk.ensures ∙ c.if-not-is_hunk.false;
  behind = omega (arith, position_count-le c.hunk-item.result);
}

pub returns : goal.returns
returns c =
    let whole = take_all c.loop-hunk.hunk-index c.args.hunks.now c.loop-hunk-test.false in
    let length_is : c.loop-hunk.length ≡ c.args.others + length (flat_map hunk_text c.args.hunks.now) =
    omega (arith, c.loop-hunk.invariant.so_far, ap (sum_by (λ h. length (hunk_text h))) whole, length-flat_map hunk_text c.args.hunks.now) in (
      λ h. (sym (ap (are_hunks c.args.needs 0) whole) ∙ c.loop-hunk.invariant.rules, let short = leb-true c.loop-hunk.length c.args.limit h in omega arith),
      λ h. le-leb c.loop-hunk.length c.args.limit (omega (arith, h.1)),
    )
