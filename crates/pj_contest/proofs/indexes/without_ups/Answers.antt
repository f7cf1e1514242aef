use Rattle.std.proofs.Common.{length, arith, ◌∙◌, ap, ◌&&◌, not}
use Rattle.pj_rows.specs.Keys.{has, is_among}
use Rattle.pj_contest.specs.Marks.{up_cmp}
use Rattle.pj_contest.specs.Given.{up_rows}
use Rattle.pj_contest.proofs.MarkOrder.{up_tied}
use Rattle.pj_contest.proofs.Fewer.{rows_left, ups_apart}
use Rattle.pj_contest.proofs.indexes.without_ups.Goals as goal

pub returns-clause-rows : goal.returns-clause-rows
returns-clause-rows g c = λ S fresh is q.
    let r = c.args.change.now in
    c.in_ok-now.ensures.rows q ∙ ap (λ keys. not (is_among up_cmp q keys) && has up_cmp q c.args.ups) (c.deref.ensures.value ∙ c.in_ok-rows.ensures)
    ∙ ap (λ b. not (is_among up_cmp q (up_rows r)) && b) (is q) ∙ rows_left up_cmp up_tied up_rows S r (ups_apart S r fresh) q

pub returns-in_err-now-clause-cost : goal.returns-in_err-now-clause-cost
returns-in_err-now-clause-cost g c = let n = ap length (c.deref.ensures.value ∙ c.in_ok-rows.ensures) in let e = c.without_keys.ensures.cost in omega arith

pub returns-clause-cost : goal.returns-clause-cost
returns-clause-cost g c = let n = ap length (c.deref.ensures.value ∙ c.in_ok-rows.ensures) in let e = c.without_keys.ensures.cost in omega arith
