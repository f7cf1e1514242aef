use Rattle.std.proofs.Common.{◌≡◌, true, false, ◌∷◌, ◌++◌, length, drop, sym, ◌∙◌, ap, List, ℕ}
use Rattle.pj_wire.proofs.Fronts.{begins_true, begins_false, next_byte}
use Rattle.pj_wire.proofs.verb.goes_on.Goals as goal

pub returns-then-not-starts_with : goal.returns-then-not-starts_with
returns-then-not-starts_with c = (
  λ (h : false ≡ true). cc h,
  λ h. absurd (begins_false c.args.word.now c.args.front.now _ c.starts_with.ensures.value c.if-not-starts_with.true (c.args.byte ∷ h.0) h.1),
)

pub returns-in-Some : goal.returns-in-Some
returns-in-Some c =
    let whole : c.args.word.now ≡ c.args.front.now ++ drop (length c.args.front.now) c.args.word.now = begins_true _ _ _ c.starts_with.ensures.value c.if-not-starts_with.false in
    next_byte c.args.word.now c.args.front.now c.split_at.result.1.now c.in-Some.field-0-1.now c.in-Some.first.now c.args.byte
    (whole ∙ ap (λ (s : List ℕ). c.args.front.now ++ s) (sym c.split_at.ensures.back)) c.in-Some.ensures.cases.0
