use Rattle.std.proofs.Common.{◌≡◌, refl, ℕ, List, length, sym, ◌∙◌, ap, subst, arith}
use Rattle.std.proofs.lemmas.List.{nil_from_length}
use Rattle.pj_scan.specs.Scan.{IsNumber, rest}
use Rattle.pj_wire.proofs.Numbers.{no_length, other_length, is_length}
use Rattle.pj_wire.proofs.fields.length_of.Goals as goal

pub returns-in-None : goal.returns-in-None
returns-in-None c =
    let at : rest c.new-scan.result ≡ c.args.digits.now = ap rest c.new-scan.ensures in
    no_length c.args.digits.now (λ n left is. c.in-None.ensures.none refl n left (subst (λ (s : List ℕ). IsNumber s n left) (sym at) is))

pub returns-in-Some : goal.returns-in-Some
returns-in-Some c =
    let at : rest c.new-scan.result ≡ c.args.digits.now = ap rest c.new-scan.ensures in
    other_length c.args.digits.now _ c.in-Some.length (subst (λ (s : List ℕ). IsNumber s c.in-Some.length (rest c.number.new.self)) at c.in-Some.ensures.number)
    (λ small none. let big = c.if-length-gt-MOST_TEXT_BYTES.true in omega (arith, small, big))

pub returns-in-Some-2 : goal.returns-in-Some-2
returns-in-Some-2 c =
    let at : rest c.new-scan.result ≡ c.args.digits.now = ap rest c.new-scan.ensures in
    let none : length c.rest.result.now ≡ 0 = grind (arith, c.is_empty.ensures, c.if-is_empty.true) in
    is_length c.args.digits.now _ c.in-Some.length (subst (λ (s : List ℕ). IsNumber s c.in-Some.length (rest c.number.new.self)) at c.in-Some.ensures.number)
    c.if-length-gt-MOST_TEXT_BYTES.false (sym c.rest.ensures ∙ nil_from_length c.rest.result.now none)

pub returns-in-Some-3 : goal.returns-in-Some-3
returns-in-Some-3 c =
    let at : rest c.new-scan.result ≡ c.args.digits.now = ap rest c.new-scan.ensures in
    other_length c.args.digits.now _ c.in-Some.length (subst (λ (s : List ℕ). IsNumber s c.in-Some.length (rest c.number.new.self)) at c.in-Some.ensures.number)
    (λ small none. let zero : length c.rest.result.now ≡ 0 = ap (λ (s : List ℕ). length s) (c.rest.ensures ∙ none) in grind (arith, c.is_empty.ensures, c.if-is_empty.false, zero))
