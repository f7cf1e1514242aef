-- Numbers that are cut within their digits.
use Rattle.std.proofs.Common.{◌≡◌, ℕ, zero, suc, ◌+◌, ◌<◌, ◌≤◌, List, [], ◌++◌, length, take, get_or, refl, sym, ◌∙◌, ap, subst, arith, length-append, decimal}
use Rattle.std.specs.Int.{IsInRange}
use Rattle.std.specs.Str.Parse.{digits_value}
use Rattle.std.proofs.lemmas.List.{get_or_append_left, take_at}
use Rattle.std.proofs.lemmas.Fmt.{decimal-digits_value, digits_decimal, digits_value-decimal, first_decimal, length-decimal-le}
use Rattle.std.proofs.lemmas.Str.Parse.{IsNumeralModel, digits_value-take-le, numerals_by_value, tells_by_index}
use Rattle.std.proofs.Common.{Option, Some, None, unwrap_or, append-nil}
use Rattle.std.proofs.lemmas.Option.{none-some}
use Rattle.std.specs.Prelude.{◌↔◌}
use Rattle.pj_scan.specs.Scan.{IsNumber}
use Rattle.pj_scan.proofs.Numerals.{number_is_one}
use Rattle.pj_wire.proofs.Words.{AreDigits}

-- digits by their value
pub own : IsNumeralModel AreDigits (digits_value 10)
own = numerals_by_value AreDigits tells_by_index

-- of a number's digits the first few write a number that is not greater
pub shorter_number : (digits more : List ℕ) (n : ℕ) → n ≤ 16777216 → 0 < length digits → digits ++ more ≡ decimal n → (m : ℕ) × (m ≤ n) × (digits ≡ decimal m)
shorter_number digits more n small some e =
    let value : digits_value 10 (decimal n) ≡ n = digits_value-decimal own n (omega arith) in
    let front : take (length digits) (decimal n) ≡ digits = ap (λ (s : List ℕ). take (length digits) s) (sym e) ∙ take_at digits more (length digits) refl in
    let less : digits_value 10 (take (length digits) (decimal n)) ≤ digits_value 10 (decimal n) = digits_value-take-le 10 (decimal n) (length digits) (omega arith) in
    let same : digits_value 10 (take (length digits) (decimal n)) ≡ digits_value 10 digits = ap (digits_value 10) front in
    let below : digits_value 10 digits ≤ n = omega (arith, less, same, value) in
    let count : length digits + length more ≡ length (decimal n) = sym (length-append digits more) ∙ ap (λ (s : List ℕ). length s) e in
    let at : (i : ℕ) → i < length digits → get_or digits i 0 ≡ get_or (decimal n) i 0 = λ i lt. sym (get_or_append_left digits more 0 i lt) ∙ ap (λ (s : List ℕ). get_or s i 0) e in
    let all : AreDigits (decimal n) = digits_decimal own n (omega arith) in
    let are : AreDigits digits = λ i lt. subst (IsInRange 48 57) (sym (at i lt)) (all i (omega (arith, count, lt))) in
    (digits_value 10 digits, below, sym (decimal-digits_value own digits are some (λ first. one n small count (sym (at 0 some) ∙ first)) (omega (arith, below))))
  where
    one : (n : ℕ) → n ≤ 16777216 → length digits + length more ≡ length (decimal n) → get_or (decimal n) 0 0 ≡ 48 → length digits ≡ 1
    one zero small count first =
        let short = length-decimal-le 1 0 (omega arith) (omega arith) (omega arith) in
        omega (arith, count, short, some)
    one (suc n) small count first = absurd (omega (arith, first_decimal (suc n) (omega arith) (omega arith), first))

-- ---- the length of a text

abbrev pub IsLength : List ℕ → Option ℕ → Type 0
IsLength digits read = (n : ℕ) → (read ≡ Some n) ↔ ((n ≤ 16777216) × (digits ≡ decimal n))

all_digits : (digits : List ℕ) (n : ℕ) → n ≤ 16777216 → digits ≡ decimal n → IsNumber digits n []
all_digits digits n small e = record { stands = e ∙ sym (append-nil (decimal n)); small = omega (arith, small); ends = tt }

-- no number stands at the front
pub no_length : (digits : List ℕ) → ((n : ℕ) (left : List ℕ) → IsNumber digits n left → ⊥) → IsLength digits None
no_length digits none n = (λ e. absurd (none-some n e), λ is. absurd (none n [] (all_digits digits n is.0 is.1)))

-- another number than that of a length stands there, or is followed by a byte
pub other_length : (digits left : List ℕ) (m : ℕ) → IsNumber digits m left → (m ≤ 16777216 → left ≡ [] → ⊥) → IsLength digits None
other_length digits left m is other n = (
  λ e. absurd (none-some n e),
  λ h.
      let same = number_is_one digits m n left [] is (all_digits digits n h.0 h.1) in
      absurd (other (subst (λ k. k ≤ 16777216) (sym same.0) h.0) same.1),
)

-- the number of a length stands there alone
pub is_length : (digits left : List ℕ) (m : ℕ) → IsNumber digits m left → m ≤ 16777216 → left ≡ [] → IsLength digits (Some m)
is_length digits left m is small none n = (
  λ e.
      let same : m ≡ n = ap (λ (o : Option ℕ). unwrap_or o 0) e in
      let stands : digits ≡ decimal m = is.stands ∙ ap (λ (s : List ℕ). decimal m ++ s) none ∙ append-nil (decimal m) in
      (subst (λ k. k ≤ 16777216) same small, stands ∙ ap decimal same),
  λ h. ap Some (number_is_one digits m n left [] is (all_digits digits n h.0 h.1)).0,
)
