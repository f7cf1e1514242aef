use Rattle.std.proofs.Common.{◌<◌, ◌∙◌, sym, ap, arith, cond, count_by}
use Rattle.std.specs.Ordering.{is_eq}
use Rattle.pj_rows.specs.Keys.{number_at}
use Rattle.pj_ranges.specs.Units.{hunk_cmp}
use Rattle.pj_change.specs.ContestCounts.{is_contested_by}
use Rattle.pj_rows.proofs.KeyLemmas.{number-with, counted-with}
use Rattle.pj_ranges.proofs.RangeOrder.{hunk_total}
use Rattle.pj_contest.proofs.OwnCounts.{none_put, no_deletion}
use Rattle.pj_contest.proofs.own.with_own_hunk.Goals as goal

pub returns-in_default-clause-counts : goal.returns-in_default-clause-counts
returns-in_default-clause-counts g c = λ x. none_put c.args.counts (record { change = c.args.record.now.name; hunk = c.args.number }) x _ c.requires.none
    (no_deletion (c.args.owners.now) c.args.record.now c.args.hunk.now c.in_default.not-Delete)

pub returns-then-count-eq0-clause-counts : goal.returns-then-count-eq0-clause-counts
returns-then-count-eq0-clause-counts g c = λ x.
    let S = c.args.owners.now in
    let hunk = c.in-Delete.is in
    none_put c.args.counts (record { change = c.args.record.now.name; hunk = c.args.number }) x _ c.requires.none
    (ap (λ h. count_by (is_contested_by S c.args.record.now h) S) hunk ∙ sym c.in_ok-count.ensures.count ∙ c.if-count-eq0.true)

pub returns-clause-counts : goal.returns-clause-counts
returns-clause-counts g c = λ x.
    let S = c.args.owners.now in
    let hunk = c.in-Delete.is in
    ap (number_at hunk_cmp x) c.in_ok-now.ensures.same
    ∙ number-with hunk_cmp hunk_total x (record { change = c.args.record.now.name; hunk = c.args.number }) (record { count = c.in_ok-count.count }) c.args.counts
    ∙ ap (λ n. cond (is_eq (hunk_cmp x (record { change = c.args.record.now.name; hunk = c.args.number }))) n (number_at hunk_cmp x c.args.counts)) (c.in_ok-count.ensures.count ∙ sym (ap (λ h. count_by (is_contested_by S c.args.record.now h) S) hunk))

pub returns-clause-counted : goal.returns-clause-counted
returns-clause-counted g c =
    let some : 0 < c.in_ok-count.count = omega arith in
    rw c.in_ok-now.ensures.same (counted-with hunk_cmp hunk_total (record { change = c.args.record.now.name; hunk = c.args.number }) (record { count = c.in_ok-count.count }) c.args.counts c.requires.counted some
    (rw c.in_ok-now.ensures.same at c.in_ok-now.ensures.rising))
