use Rattle.std.proofs.Common.{◌≡◌, ◌≤◌, ◌<◌, ◌∙◌, ap, arith, subst, length}
use Rattle.pj_change.proofs.EqualNames.{same_name_is}
use Rattle.pj_rows.specs.Keys.{number_at}
use Rattle.pj_ranges.specs.Units.{hunk_cmp}
use Rattle.pj_rows.proofs.KeyLemmas.{number-without, counted-without}
use Rattle.pj_ranges.proofs.RangeOrder.{hunk_total}
use Rattle.pj_contest.proofs.OwnCounts.{taken_begin, taken_step, taken_end}
use Rattle.pj_contest.proofs.own.without_own.Goals as goal

pub loop-number-init : goal.loop-number-init
loop-number-init g c = record { counts = λ x. taken_begin c.args.record.now x _; counted = c.requires.counted; cost = omega arith }

pub loop-number-preserved : goal.loop-number-preserved
loop-number-preserved g c =
    let low : c.loop-number.number < length c.items-items.result.now = c.loop-number-test.true in
    record {
      counts = λ x. taken_step c.args.record.now c.loop-number.number x _ _ _ (ap (number_at hunk_cmp x) c.in_ok-now.ensures.same ∙ number-without hunk_cmp hunk_total x (record { change = c.args.record.now.name; hunk = c.loop-number.number }) c.loop-number.now c.loop-number.invariant.counted.rising) (c.loop-number.invariant.counts x);
      counted = rw c.in_ok-now.ensures.same (counted-without hunk_cmp hunk_total (record { change = c.args.record.now.name; hunk = c.loop-number.number }) c.loop-number.now c.loop-number.invariant.counted (rw c.in_ok-now.ensures.same at c.in_ok-now.ensures.rising));
      cost = let e = c.in_ok-now.ensures.cost in let i = c.loop-number.invariant.cost in omega arith;
    }

pub returns-clause-counts : goal.returns-clause-counts
returns-clause-counts g c = λ x. taken_end c.args.record.now c.loop-number.number x _ _ (c.loop-number.invariant.counts x)
    (λ s high. let past : length c.args.record.now.change.hunks ≤ x.hunk = let e = subst (λ hs. length hs ≤ c.loop-number.number) c.items-items.ensures c.loop-number-test.false in omega arith in
    subst (λ n. number_at hunk_cmp (record { change = n; hunk = x.hunk }) c.args.counts ≡ 0) (same_name_is c.args.record.now.name x.change s) (c.requires.few x.hunk past))
