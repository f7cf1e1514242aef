use Rattle.std.proofs.Common.{length, arith, ◌∙◌, ap, subst, ◌||◌}
use Rattle.std.specs.Prelude.{Contains}
use Rattle.pj_ranges.specs.Units.{range_cmp}
use Rattle.pj_ranges.specs.Over.{has_range}
use Rattle.pj_rows.specs.Keys.{is_among}
use Rattle.pj_contest.specs.Given.{deleted_ranges}
use Rattle.pj_contest.proofs.Complete.{ranges_measured}
use Rattle.pj_contest.proofs.indexes.with_deleted.Goals as goal

pub with_ranges-requires : goal.with_ranges-requires
with_ranges-requires g c = λ q m. ranges_measured c.args.change.now q (subst (λ qs. Contains qs q) (c.deref.ensures.value ∙ c.in_ok-rows.ensures) m)

pub returns-clause-rows : goal.returns-clause-rows
returns-clause-rows g c = λ S is q.
    let r = c.args.change.now in
    c.in_ok-now.ensures.rows q ∙ ap (λ keys. is_among range_cmp q keys || has_range c.args.ranges q) (c.deref.ensures.value ∙ c.in_ok-rows.ensures)
    ∙ ap (λ b. is_among range_cmp q (deleted_ranges r) || b) (is q)

pub returns-in_err-now-clause-cost : goal.returns-in_err-now-clause-cost
returns-in_err-now-clause-cost g c = let n = ap length (c.deref.ensures.value ∙ c.in_ok-rows.ensures) in let e = c.with_ranges.ensures.cost in omega arith

pub returns-clause-cost : goal.returns-clause-cost
returns-clause-cost g c = let n = ap length (c.deref.ensures.value ∙ c.in_ok-rows.ensures) in let e = c.with_ranges.ensures.cost in omega arith
