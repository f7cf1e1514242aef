use Rattle.std.proofs.Common.{◌≤◌, [], ◌∷◌, ◌++◌, decimal, arith}
use Rattle.pj_replies.proofs.Finding.{first_part, first_apart, second_whole, second_part, second_apart}
use Rattle.pj_replies.proofs.Behind.{behind}
use Rattle.pj_replies.proofs.fields.number.Goals as goal

pub returns-in-Whole-digits : goal.returns-in-Whole-digits
returns-in-Whole-digits c =
    second_whole _ _ _ _ _ _ _ (behind c.args.before.now (λ n. decimal n ++ c.args.end ∷ []) (λ n. n ≤ c.args.most) 0 (omega arith)) c.args.bytes.now
    c.in-Whole.field-0 c.in-Whole.at _ c.split_at.ensures.back c.in-Whole.ensures c.in-Whole-digits.number c.in-Whole-digits.count c.in-Whole-digits.ensures

pub returns-in-Part-digits : goal.returns-in-Part-digits
returns-in-Part-digits c =
    second_part _ _ _ _ _ _ _ (behind c.args.before.now (λ n. decimal n ++ c.args.end ∷ []) (λ n. n ≤ c.args.most) 0 (omega arith)) c.args.bytes.now
    c.in-Whole.field-0 c.in-Whole.at _ c.split_at.ensures.back c.in-Whole.ensures c.in-Part-digits.ensures

pub returns-in-Apart-digits : goal.returns-in-Apart-digits
returns-in-Apart-digits c =
    second_apart _ _ _ _ _ _ _ (behind c.args.before.now (λ n. decimal n ++ c.args.end ∷ []) (λ n. n ≤ c.args.most) 0 (omega arith)) c.args.bytes.now
    c.in-Whole.field-0 c.in-Whole.at _ c.split_at.ensures.back c.in-Whole.ensures c.in-Apart-digits.ensures

pub returns-in-Part : goal.returns-in-Part
returns-in-Part c =
    first_part _ _ _ _ _ _ _ (behind c.args.before.now (λ n. decimal n ++ c.args.end ∷ []) (λ n. n ≤ c.args.most) 0 (omega arith)) c.args.bytes.now c.in-Part.ensures

pub returns-in-Apart : goal.returns-in-Apart
returns-in-Apart c =
    first_apart _ _ _ _ _ _ _ (behind c.args.before.now (λ n. decimal n ++ c.args.end ∷ []) (λ n. n ≤ c.args.most) 0 (omega arith)) c.args.bytes.now c.in-Apart.ensures
