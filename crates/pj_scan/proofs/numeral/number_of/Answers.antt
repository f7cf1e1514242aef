use Rattle.std.proofs.Common.{◌≡◌, ℕ, ◌<◌, length, get_or, Option, subst, sym, ◌∙◌}
use Rattle.std.specs.Str.Parse.{ParsesUnsigned}
use Rattle.pj_scan.proofs.Numerals.{IsReading, digits_utf8, leading_zero, parsed, utf8_read, utf8_same}
use Rattle.pj_scan.proofs.numeral.number_of.Goals as goal

pub returns-then-has_leading_zero : goal.returns-then-has_leading_zero
returns-then-has_leading_zero c = leading_zero c.args.digits.now (c.has_leading_zero.ensures.0 c.if-has_leading_zero.true)

pub returns-in_err-ok : goal.returns-in_err-ok
returns-in_err-ok c =
    absurd (utf8_read _ c.args.digits.now c.from_utf8.result c.from_utf8.ensures.cases (digits_utf8 c.args.digits.now c.requires) (sym c.ok.ensures.value ∙ c.in_err-ok.was))

pub returns : goal.returns
returns c =
    let text = utf8_same _ c.args.digits.now c.from_utf8.result c.in_ok-ok.field-0 c.from_utf8.ensures.cases (sym c.ok.ensures.value ∙ c.in_ok-ok.was) in
    let read : ParsesUnsigned 32 10 c.args.digits.now c.parse.result = rw (← text) c.parse.ensures.value.0 in
    let plain : ¬ (1 < length c.args.digits.now × (get_or c.args.digits.now 0 0 ≡ 48)) = λ h. cc (sym c.if-has_leading_zero.false ∙ c.has_leading_zero.ensures.1 h) in
    let P : Option ℕ → Type 0 = IsReading c.args.digits.now in
    subst P (sym c.ok-2.ensures.value) (parsed c.args.digits.now c.parse.result read c.requires plain)
