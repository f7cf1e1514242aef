use Rattle.std.proofs.Common.{length, arith, ◌∙◌, ap, ◌&&◌, not}
use Rattle.pj_rows.specs.Keys.{has, is_among}
use Rattle.pj_contest.specs.Marks.{child_cmp}
use Rattle.pj_contest.specs.Given.{child_rows}
use Rattle.pj_contest.proofs.MarkOrder.{child_tied}
use Rattle.pj_contest.proofs.Fewer.{rows_left, children_apart}
use Rattle.pj_contest.proofs.indexes.without_children.Goals as goal

pub returns-clause-rows : goal.returns-clause-rows
returns-clause-rows g c = λ S fresh is q.
    let r = c.args.change.now in
    c.in_ok-now.ensures.rows q ∙ ap (λ keys. not (is_among child_cmp q keys) && has child_cmp q c.args.children) (c.deref.ensures.value ∙ c.in_ok-rows.ensures)
    ∙ ap (λ b. not (is_among child_cmp q (child_rows r)) && b) (is q) ∙ rows_left child_cmp child_tied child_rows S r (children_apart S r fresh) q

pub returns-in_err-now-clause-cost : goal.returns-in_err-now-clause-cost
returns-in_err-now-clause-cost g c = let n = ap length (c.deref.ensures.value ∙ c.in_ok-rows.ensures) in let e = c.without_keys.ensures.cost in omega arith

pub returns-clause-cost : goal.returns-clause-cost
returns-clause-cost g c = let n = ap length (c.deref.ensures.value ∙ c.in_ok-rows.ensures) in let e = c.without_keys.ensures.cost in omega arith
