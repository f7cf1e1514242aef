use Rattle.std.proofs.Common.{◌≡◌, ℕ, ◌+◌, ◌*◌, ◌<◌, ◌≤◌, ◌-◌, Some, None, [], ◌∷◌, ◌++◌, Option, sym, ◌∙◌, ap, subst, arith}
use Rattle.pj_wire.specs.declared.stage.Stage.TheVariants as stage
use Rattle.pj_wire.specs.Stages.{IsStage, digits_read}
use Rattle.pj_wire.proofs.Numbers.{IsLength}
use Rattle.pj_wire.proofs.Stages.{length_read, no_length_read, first_digit, next_digit, no_digit, more_digits}
use Rattle.pj_wire.proofs.stage.with_digit.Goals as goal

pub returns-then-not-is_ascii_digit : goal.returns-then-not-is_ascii_digit
returns-then-not-is_ascii_digit c = no_length_read _ (λ n small is. no_digit (digits_read c.args.value) c.args.byte n (λ low high. grind (arith, low, high, c.is_ascii_digit.ensures, c.if-not-is_ascii_digit.true)) small is)

pub returns-in-None : goal.returns-in-None
returns-in-None c =
    let low : 48 ≤ c.args.byte = grind (arith, c.is_ascii_digit.ensures, c.if-not-is_ascii_digit.false) in
    let high : c.args.byte ≤ 57 = grind (arith, c.is_ascii_digit.ensures, c.if-not-is_ascii_digit.false) in
    subst (λ (o : Option ℕ). IsLength (digits_read o ++ c.args.byte ∷ []) (Some (c.args.byte - 48))) (sym c.in-None.is) (length_read (c.args.byte ∷ []) (c.args.byte - 48) (omega (arith, high)) (first_digit c.args.byte low high))

pub returns-in-Some-eq0 : goal.returns-in-Some-eq0
returns-in-Some-eq0 c =
    let is : c.args.value ≡ Some 0 = c.in-Some-eq0.is ∙ ap Some (sym c.in-Some-eq0.field-0-is ∙ c.in-Some-eq0.field-0-test) in
    subst (λ (o : Option ℕ). IsLength (digits_read o ++ c.args.byte ∷ []) None) (sym is)
    (no_length_read _ (λ n small e. let both = more_digits 0 c.args.byte n (omega arith) small e in omega (arith, both.0)))

pub returns-then-number-le-MOST_TEXT_BYTES : goal.returns-then-number-le-MOST_TEXT_BYTES
returns-then-number-le-MOST_TEXT_BYTES c =
    let low : 48 ≤ c.args.byte = grind (arith, c.is_ascii_digit.ensures, c.if-not-is_ascii_digit.false) in
    let high : c.args.byte ≤ 57 = grind (arith, c.is_ascii_digit.ensures, c.if-not-is_ascii_digit.false) in
    let fits : c.in-Some.tens ≤ 16777216 = subst (λ (o : Option ℕ). IsStage (stage.Length o)) c.in-Some.is c.requires in
    let other = rw c.in-Some.is at c.in-Some.tens-test.1 in
    let some : 0 < c.in-Some.tens = omega (arith, other) in
    subst (λ (o : Option ℕ). IsLength (digits_read o ++ c.args.byte ∷ []) (Some (c.in-Some.tens * 10 + (c.args.byte - 48)))) (sym c.in-Some.is)
    (length_read _ (c.in-Some.tens * 10 + (c.args.byte - 48)) c.if-number-le-MOST_TEXT_BYTES.true (next_digit c.in-Some.tens c.args.byte some fits low high))

pub returns-else-number-le-MOST_TEXT_BYTES : goal.returns-else-number-le-MOST_TEXT_BYTES
returns-else-number-le-MOST_TEXT_BYTES c =
    let fits : c.in-Some.tens ≤ 16777216 = subst (λ (o : Option ℕ). IsStage (stage.Length o)) c.in-Some.is c.requires in
    subst (λ (o : Option ℕ). IsLength (digits_read o ++ c.args.byte ∷ []) None) (sym c.in-Some.is)
    (no_length_read _ (λ n small e. let both = more_digits c.in-Some.tens c.args.byte n fits small e in let number = both.1 in omega (arith, number, small, c.if-number-le-MOST_TEXT_BYTES.false)))
