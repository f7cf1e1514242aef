use Rattle.std.proofs.Common.{length, arith, ◌∙◌, ap, ◌||◌}
use Rattle.pj_rows.specs.Keys.{has, is_among}
use Rattle.pj_contest.specs.Marks.{child_cmp}
use Rattle.pj_contest.specs.Given.{child_rows}
use Rattle.pj_contest.proofs.indexes.with_children.Goals as goal

pub returns-clause-rows : goal.returns-clause-rows
returns-clause-rows g c = λ S is q.
    let r = c.args.change.now in
    c.in_ok-now.ensures.rows q ∙ ap (λ keys. is_among child_cmp q keys || has child_cmp q c.args.children) (c.deref.ensures.value ∙ c.in_ok-rows.ensures)
    ∙ ap (λ b. is_among child_cmp q (child_rows r) || b) (is q)

pub returns-in_err-now-clause-cost : goal.returns-in_err-now-clause-cost
returns-in_err-now-clause-cost g c = let n = ap length (c.deref.ensures.value ∙ c.in_ok-rows.ensures) in let e = c.with_keys.ensures.cost in omega arith

pub returns-clause-cost : goal.returns-clause-cost
returns-clause-cost g c = let n = ap length (c.deref.ensures.value ∙ c.in_ok-rows.ensures) in let e = c.with_keys.ensures.cost in omega arith
