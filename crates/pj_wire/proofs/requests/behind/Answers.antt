use Rattle.std.proofs.Common.{ℕ, List, ◌++◌, sym, ◌∙◌, ap}
use Rattle.pj_wire.proofs.Fronts.{begins_true, begins_false}
use Rattle.pj_wire.proofs.requests.behind.Goals as goal

pub returns-then-starts_with : goal.returns-then-starts_with
returns-then-starts_with c =
    begins_true _ _ _ c.starts_with.ensures.value c.if-starts_with.true ∙ ap (λ (s : List ℕ). c.word-word.result.now ++ s) (sym c.split_at.ensures.back) ∙ ap (λ (s : List ℕ). s ++ c.split_at.result.1.now) c.word-word.ensures

pub returns-else-starts_with : goal.returns-else-starts_with
returns-else-starts_with c = λ v rest allowed e. begins_false _ _ _ c.starts_with.ensures.value c.if-starts_with.false rest (e ∙ ap (λ (s : List ℕ). s ++ rest) (sym c.word-word.ensures))
