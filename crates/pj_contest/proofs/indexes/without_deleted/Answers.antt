use Rattle.std.proofs.Common.{length, arith, ◌∙◌, ap, ◌&&◌, not}
use Rattle.pj_ranges.specs.Units.{range_cmp}
use Rattle.pj_ranges.specs.Over.{has_range}
use Rattle.pj_ranges.proofs.RangeOrder.{range_tied}
use Rattle.pj_rows.specs.Keys.{is_among}
use Rattle.pj_contest.specs.Given.{deleted_ranges}
use Rattle.pj_contest.proofs.Fewer.{rows_left, ranges_apart}
use Rattle.pj_contest.proofs.indexes.without_deleted.Goals as goal

pub returns-clause-rows : goal.returns-clause-rows
returns-clause-rows g c = λ S fresh is q.
    let r = c.args.change.now in
    c.in_ok-now.ensures.rows q ∙ ap (λ keys. not (is_among range_cmp q keys) && has_range c.args.ranges q) (c.deref.ensures.value ∙ c.in_ok-rows.ensures)
    ∙ ap (λ b. not (is_among range_cmp q (deleted_ranges r)) && b) (is q) ∙ rows_left range_cmp range_tied deleted_ranges S r (ranges_apart S r fresh) q

pub returns-in_err-now-clause-cost : goal.returns-in_err-now-clause-cost
returns-in_err-now-clause-cost g c = let n = ap length (c.deref.ensures.value ∙ c.in_ok-rows.ensures) in let e = c.without_ranges.ensures.cost in omega arith

pub returns-clause-cost : goal.returns-clause-cost
returns-clause-cost g c = let n = ap length (c.deref.ensures.value ∙ c.in_ok-rows.ensures) in let e = c.without_ranges.ensures.cost in omega arith
