use Rattle.std.proofs.Common.{◌≡◌, ◌-◌, ℕ, length, get_or, subst, arith}
use Rattle.pj_gen.specs.declared.telling.Found.{Found}
use Rattle.pj_gen.specs.Summary.{line_texts, all_texts, IsFoundOf}
use Rattle.pj_load.proofs.EightFound.{found_at, eight_found}
use Rattle.pj_load.proofs.telling.told.Goals as goal

pub returns-in-Ok-clause-summary : goal.returns-in-Ok-clause-summary
returns-in-Ok-clause-summary c = λ number d lines all.
    let many : length c.args.prints.now ≡ 9 = (let no = c.if-prints-ne9.false in omega arith) in
    let P : ℕ → Found → Type 0 = λ l f. IsFoundOf (line_texts number l (c.args.changes - 1)) f in
    c.in-Ok.ensures number
    (eight_found P (get_or c.args.prints.now 0 c.index-prints-0.result).found (get_or c.args.prints.now 1 c.index-prints-1.result).found (get_or c.args.prints.now 2 c.index-prints-2.result).found (get_or c.args.prints.now 3 c.index-prints-3.result).found (get_or c.args.prints.now 4 c.index-prints-4.result).found (get_or c.args.prints.now 5 c.index-prints-5.result).found (get_or c.args.prints.now 6 c.index-prints-6.result).found (get_or c.args.prints.now 7 c.index-prints-7.result).found (get_or c.args.prints.now 8 c.index-prints-8.result).found
    (subst (λ f. P 0 f) (found_at c.args.prints.now 0 d c.index-prints-0.result (omega arith)) (lines 0 (omega arith)))
    (subst (λ f. P 1 f) (found_at c.args.prints.now 1 d c.index-prints-1.result (omega arith)) (lines 1 (omega arith)))
    (subst (λ f. P 2 f) (found_at c.args.prints.now 2 d c.index-prints-2.result (omega arith)) (lines 2 (omega arith)))
    (subst (λ f. P 3 f) (found_at c.args.prints.now 3 d c.index-prints-3.result (omega arith)) (lines 3 (omega arith)))
    (subst (λ f. P 4 f) (found_at c.args.prints.now 4 d c.index-prints-4.result (omega arith)) (lines 4 (omega arith)))
    (subst (λ f. P 5 f) (found_at c.args.prints.now 5 d c.index-prints-5.result (omega arith)) (lines 5 (omega arith)))
    (subst (λ f. P 6 f) (found_at c.args.prints.now 6 d c.index-prints-6.result (omega arith)) (lines 6 (omega arith)))
    (subst (λ f. P 7 f) (found_at c.args.prints.now 7 d c.index-prints-7.result (omega arith)) (lines 7 (omega arith))))
    (subst (λ f. IsFoundOf (all_texts number (c.args.changes - 1)) f) (found_at c.args.prints.now 8 d c.index-prints-8.result (omega arith)) all)
