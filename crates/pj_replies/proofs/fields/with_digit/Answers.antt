use Rattle.std.proofs.Common.{◌≡◌, ℕ, ◌+◌, ◌*◌, ◌<◌, ◌≤◌, ◌-◌, Some, None, [], ◌∷◌, ◌++◌, Option, sym, ◌∙◌, ap, subst, arith}
use Rattle.pj_replies.specs.Digits.{digits_read, IsBelow}
use Rattle.pj_replies.proofs.Digits.{Writes, writes, writes_none, one_digit, next_digit, no_digit, more_digits, too_great}
use Rattle.pj_replies.proofs.fields.with_digit.Goals as goal

pub returns-then-not-is_ascii_digit : goal.returns-then-not-is_ascii_digit
returns-then-not-is_ascii_digit c =
    writes_none c.args.most _
    (λ n few is. no_digit (digits_read c.args.value) c.args.byte n (λ low high. grind (arith, low, high, c.is_ascii_digit.ensures, c.if-not-is_ascii_digit.true)) (omega (arith, few)) is)

pub returns-then-digit-most : goal.returns-then-digit-most
returns-then-digit-most c =
    let low : 48 ≤ c.args.byte = grind (arith, c.is_ascii_digit.ensures, c.if-not-is_ascii_digit.false) in
    let high : c.args.byte ≤ 57 = grind (arith, c.is_ascii_digit.ensures, c.if-not-is_ascii_digit.false) in
    too_great c.args.most c.args.byte c.args.value (omega arith) c.requires low high c.if-digit-most.true

pub returns-in-None : goal.returns-in-None
returns-in-None c =
    let low : 48 ≤ c.args.byte = grind (arith, c.is_ascii_digit.ensures, c.if-not-is_ascii_digit.false) in
    let high : c.args.byte ≤ 57 = grind (arith, c.is_ascii_digit.ensures, c.if-not-is_ascii_digit.false) in
    subst (λ (o : Option ℕ). Writes c.args.most (digits_read o ++ c.args.byte ∷ []) (Some (c.args.byte - 48))) (sym c.in-None.is)
    (writes c.args.most (c.args.byte ∷ []) (c.args.byte - 48) (omega arith) (omega arith) (one_digit c.args.byte low high))

pub returns-in-Some-eq0 : goal.returns-in-Some-eq0
returns-in-Some-eq0 c =
    let is : c.args.value ≡ Some 0 = c.in-Some-eq0.is ∙ ap Some (sym c.in-Some-eq0.field-0-is ∙ c.in-Some-eq0.field-0-test) in
    subst (λ (o : Option ℕ). Writes c.args.most (digits_read o ++ c.args.byte ∷ []) None) (sym is)
    (writes_none c.args.most _ (λ n few e. let both = more_digits 0 c.args.byte n (omega arith) (omega (arith, few)) e in omega (arith, both.0)))

pub returns-then-tens-most : goal.returns-then-tens-most
returns-then-tens-most c =
    let low : 48 ≤ c.args.byte = grind (arith, c.is_ascii_digit.ensures, c.if-not-is_ascii_digit.false) in
    let high : c.args.byte ≤ 57 = grind (arith, c.is_ascii_digit.ensures, c.if-not-is_ascii_digit.false) in
    let other = rw c.in-Some.is at c.in-Some.tens-test.1 in
    let some : 0 < c.in-Some.tens = omega (arith, other) in
    let few : c.in-Some.tens * 10 + (c.args.byte - 48) ≤ c.args.most = omega arith in
    subst (λ (o : Option ℕ). Writes c.args.most (digits_read o ++ c.args.byte ∷ []) (Some (c.in-Some.tens * 10 + (c.args.byte - 48)))) (sym c.in-Some.is)
    (writes c.args.most _ (c.in-Some.tens * 10 + (c.args.byte - 48)) (omega arith) few (next_digit c.in-Some.tens c.args.byte some (omega (arith, few)) low high))

pub returns-else-tens-most : goal.returns-else-tens-most
returns-else-tens-most c =
    let fits : c.in-Some.tens ≤ c.args.most = subst (λ (o : Option ℕ). IsBelow c.args.most o) c.in-Some.is c.requires in
    subst (λ (o : Option ℕ). Writes c.args.most (digits_read o ++ c.args.byte ∷ []) None) (sym c.in-Some.is)
    (writes_none c.args.most _ (λ n few e. let both = more_digits c.in-Some.tens c.args.byte n (omega (arith, fits)) (omega (arith, few)) e in let number = both.1 in omega (arith, number, few, c.if-tens-most.false)))
