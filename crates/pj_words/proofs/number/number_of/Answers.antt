use Rattle.std.proofs.Common.{◌≡◌, ◌==◌, ℕ, true, false, refl, List, length, drop, sym, ◌∙◌, ap, subst, arith}
use Rattle.pj_scan.specs.Scan.{IsNumber}
use Rattle.pj_words.proofs.NumberLemmas.{none_left}
use Rattle.pj_words.proofs.NumberLemmas.{none_at_front, whole_number, number_and_more}
use Rattle.pj_words.proofs.number.number_of.Goals as goal

pub returns-in_err-number : goal.returns-in_err-number
returns-in_err-number c =
    let all : drop c.new-scan.result.place c.new-scan.result.bytes ≡ c.args.word.now = ap (λ s. drop s.place s.bytes) c.new-scan.ensures ∙ c.as_bytes.ensures.value in
    c.from_residual.ensures ∙ none_at_front c.args.word.now (λ n behind is. c.in_err-number.ensures.none refl n behind (subst (λ t. IsNumber t n behind) (sym all) is))

pub returns-then-is_empty : goal.returns-then-is_empty
returns-then-is_empty c =
    let all : drop c.new-scan.result.place c.new-scan.result.bytes ≡ c.args.word.now = ap (λ s. drop s.place s.bytes) c.new-scan.ensures ∙ c.as_bytes.ensures.value in
    let left = drop c.number.new.self.place c.number.new.self.bytes in
    let size : length left ≡ 0 = grind (arith, c.if-is_empty.ensures, c.rest.ensures) in
    whole_number c.args.word.now left c.in_ok-number.number (subst (λ t. IsNumber t c.in_ok-number.number left) all c.in_ok-number.ensures.number) (none_left left size)

pub returns-else-is_empty : goal.returns-else-is_empty
returns-else-is_empty c =
    let all : drop c.new-scan.result.place c.new-scan.result.bytes ≡ c.args.word.now = ap (λ s. drop s.place s.bytes) c.new-scan.ensures ∙ c.as_bytes.ensures.value in
    let left = drop c.number.new.self.place c.number.new.self.bytes in
    number_and_more c.args.word.now left c.in_ok-number.number (subst (λ t. IsNumber t c.in_ok-number.number left) all c.in_ok-number.ensures.number)
    (λ none. let size : length c.rest.result.now ≡ 0 = ap (λ (l : List ℕ). length l) (c.rest.ensures ∙ none) in
    let is : c.is_empty.result ≡ true = c.is_empty.ensures ∙ ap (λ n. n == 0) size in
    let not : c.is_empty.result ≡ false = c.if-is_empty.false in
    let h : true ≡ false = sym is ∙ not in cc)
