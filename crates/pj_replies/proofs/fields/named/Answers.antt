use Rattle.std.proofs.Common.{[], ◌∷◌, ◌++◌}
use Rattle.pj_name.specs.declared.name.Name.{Name}
use Rattle.pj_name.specs.Name.{hex, no_name}
use Rattle.pj_replies.proofs.Finding.{first_part, first_apart, second_whole, second_part, second_apart}
use Rattle.pj_replies.proofs.Behind.{behind}
use Rattle.pj_replies.proofs.fields.named.Goals as goal

pub returns-in-Whole-change : goal.returns-in-Whole-change
returns-in-Whole-change c =
    second_whole _ _ _ _ _ _ _ (behind c.args.before.now (λ (name : Name). hex name.bytes ++ 10 ∷ []) (λ _. Unit {0}) no_name tt) c.args.bytes.now
    c.in-Whole.field-0 c.in-Whole.at _ c.split_at.ensures.back c.in-Whole.ensures c.in-Whole-change.name c.in-Whole-change.count c.in-Whole-change.ensures

pub returns-in-Part-change : goal.returns-in-Part-change
returns-in-Part-change c =
    second_part _ _ _ _ _ _ _ (behind c.args.before.now (λ (name : Name). hex name.bytes ++ 10 ∷ []) (λ _. Unit {0}) no_name tt) c.args.bytes.now
    c.in-Whole.field-0 c.in-Whole.at _ c.split_at.ensures.back c.in-Whole.ensures c.in-Part-change.ensures

pub returns-in-Apart-change : goal.returns-in-Apart-change
returns-in-Apart-change c =
    second_apart _ _ _ _ _ _ _ (behind c.args.before.now (λ (name : Name). hex name.bytes ++ 10 ∷ []) (λ _. Unit {0}) no_name tt) c.args.bytes.now
    c.in-Whole.field-0 c.in-Whole.at _ c.split_at.ensures.back c.in-Whole.ensures c.in-Apart-change.ensures

pub returns-in-Part : goal.returns-in-Part
returns-in-Part c =
    first_part _ _ _ _ _ _ _ (behind c.args.before.now (λ (name : Name). hex name.bytes ++ 10 ∷ []) (λ _. Unit {0}) no_name tt) c.args.bytes.now c.in-Part.ensures

pub returns-in-Apart : goal.returns-in-Apart
returns-in-Apart c =
    first_apart _ _ _ _ _ _ _ (behind c.args.before.now (λ (name : Name). hex name.bytes ++ 10 ∷ []) (λ _. Unit {0}) no_name tt) c.args.bytes.now c.in-Apart.ensures
