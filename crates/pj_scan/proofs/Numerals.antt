-- Digits and the numbers that they write.
use Rattle.std.proofs.Common.{◌≡◌, refl, sym, ap, subst, ◌∙◌, ℕ, zero, suc, ◌<◌, ◌^◌, true, List, [], ◌∷◌, ◌++◌, length, get_or, Option, Some, None, unwrap_or, Result, Ok, Err, arith, Bor}
use Rattle.std.specs.Prelude.{◌↔◌, MatchResult, decimal}
use Rattle.std.specs.Char.{is_ascii_digit}
use Rattle.std.specs.Int.{IsInRange}
use Rattle.std.specs.List.{AllPass, take_while}
use Rattle.std.specs.Result.{OkIff, result_ok}
use Rattle.std.specs.Str.{IsUtf8}
use Rattle.std.specs.Str.Parse.{ParsesUnsigned, digits_value}
use Rattle.std.proofs.lemmas.Fmt.{IsAscii-from_digits, decimal_injective, decimal_nonempty, decimal-digits_value, digits_decimal, digits_value-decimal, first_decimal, length-decimal-le}
use Rattle.std.proofs.lemmas.Grind.{get_or_default_zero}
use Rattle.std.proofs.lemmas.Str.{IsUtf8-from_ascii}
use Rattle.std.proofs.lemmas.Str.Parse.{IsNumeralModel, numerals_by_value, parse_digits, tells_by_index}
use Rattle.pj_scan.specs.Scan.{IsNumber, IsPiece}
use Rattle.pj_scan.proofs.Fronts.{piece-take_while, same_fronts, take_while-front}

abbrev AreDigits : List ℕ → Type 0
AreDigits ds = (i : ℕ) → i < length ds → IsInRange 48 57 (get_or ds i 0)

own : IsNumeralModel AreDigits (digits_value 10)
own = numerals_by_value AreDigits tells_by_index

digit_in_range : (c : ℕ) → is_ascii_digit c ≡ true → IsInRange 48 57 c
digit_in_range c h = grind (arith)

digit_passes : (c : ℕ) → IsInRange 48 57 c → is_ascii_digit c ≡ true
digit_passes c h = grind (arith)

are_digits : (ds : List ℕ) → AllPass is_ascii_digit ds → AreDigits ds
are_digits ds h i below = digit_in_range (get_or ds i 0) (h i 0 below)

-- an answer for digits is the number below 2 ^ 32 that has just these digits
abbrev pub IsReading : List ℕ → Option ℕ → Type 0
IsReading ds read = (n : ℕ) → (read ≡ Some n) ↔ ((n < 2 ^ 32) × (ds ≡ decimal n))

-- a longer number does not begin with a zero
first_of_decimal : (n : ℕ) → n < 2 ^ 32 → get_or (decimal n) 0 0 ≡ 48 → length (decimal n) ≡ 1
first_of_decimal zero small first =
    let some = decimal_nonempty 0 (omega arith) in
    let one = length-decimal-le 1 0 (omega arith) (omega arith) (omega arith) in
    omega (arith, some, one)
first_of_decimal (suc n) small first =
    let above = first_decimal (suc n) (omega arith) (omega arith) in
    absurd (omega (arith, above, first))

pub leading_zero : (ds : List ℕ) → 1 < length ds × (get_or ds 0 0 ≡ 48) → IsReading ds None
leading_zero ds h n = (
  λ none. cc none,
  λ is.
      let one = first_of_decimal n is.0 (ap (λ (s : List ℕ). get_or s 0 0) (sym is.1) ∙ h.1) in
      let same : length ds ≡ length (decimal n) = ap length is.1 in
      absurd (omega (arith, one, same, h.0)),
)

-- digits are text
pub digits_utf8 : (ds : List ℕ) → AllPass is_ascii_digit ds → IsUtf8 ds
digits_utf8 ds h = IsUtf8-from_ascii ds (IsAscii-from_digits ds (IsNumeralModel.to own ds (are_digits ds h)))

-- so reading them as text does not fail
pub utf8_read : {E : Type 0} (B : E → Type 0) (ds : List ℕ) (r : Result (Bor (List ℕ)) E)
    → MatchResult r (λ s. (s.now ≡ ds) × IsUtf8 ds) (λ e. ¬ (IsUtf8 ds) × B e) → IsUtf8 ds → result_ok r ≡ None → ⊥
utf8_read B ds (Ok s) cases utf8 none = cc none
utf8_read B ds (Err e) cases utf8 none = cases.0 utf8

-- and the text is the digits
pub utf8_same : {E : Type 0} (B : E → Type 0) (ds : List ℕ) (r : Result (Bor (List ℕ)) E) (text : Bor (List ℕ))
    → MatchResult r (λ s. (s.now ≡ ds) × IsUtf8 ds) B → result_ok r ≡ Some text → text.now ≡ ds
utf8_same B ds (Ok s) text cases some = ap (λ (o : Option (Bor (List ℕ))). (unwrap_or o s).now) (sym some) ∙ cases.0
utf8_same B ds (Err e) text cases some = cc some

-- ---- parsed digits

-- digits without a leading zero are those of their value
of_value : (ds : List ℕ) → AllPass is_ascii_digit ds → ¬ (1 < length ds × (get_or ds 0 0 ≡ 48)) → 0 < length ds → digits_value 10 ds < 2 ^ 32
    → ds ≡ decimal (digits_value 10 ds)
of_value ds all plain some small =
    sym (decimal-digits_value own ds (are_digits ds all) some (λ zero. short ds some (λ long. plain (long, zero))) (omega arith))
  where
    short : (ds : List ℕ) → 0 < length ds → ¬ (1 < length ds) → length ds ≡ 1
    short [] some one = absurd (omega arith)
    short (d ∷ []) some one = refl
    short (d ∷ e ∷ ds) some one = absurd (one (omega arith))

pub parsed : {E : Type 0} (ds : List ℕ) (r : Result ℕ E) → ParsesUnsigned 32 10 ds r → AllPass is_ascii_digit ds
    → ¬ (1 < length ds × (get_or ds 0 0 ≡ 48)) → IsReading ds (result_ok r)
parsed {E} ds r parses all plain n =
    by_cases r (parse_digits own 32 ds r parses (are_digits ds all))
  where
    value : (n < 2 ^ 32) × (ds ≡ decimal n) → digits_value 10 ds ≡ n
    value is = ap (digits_value 10) is.1 ∙ digits_value-decimal own n (omega arith)

    by_cases : (r : Result ℕ E) → OkIff r ((0 < length ds) × (digits_value 10 ds < 2 ^ 32)) (digits_value 10 ds)
        → (result_ok r ≡ Some n) ↔ ((n < 2 ^ 32) × (ds ≡ decimal n))
    by_cases (Ok x) h = (
      λ some.
          let same : digits_value 10 ds ≡ n = sym h.1 ∙ ap (λ (o : Option ℕ). unwrap_or o 0) some in
          (rw (← same) h.0.1, of_value ds all plain h.0.0 h.0.1 ∙ ap decimal same),
      λ is. ap Some (h.1 ∙ value is),
    )
    by_cases (Err e) h = (
      λ some. cc some,
      λ is.
          let nonempty = decimal_nonempty n (omega arith) in
          absurd (h (rw (is.1) nonempty, rw (value is) is.0)),
    )

-- ---- a number at the front

-- the digits of a number pass the test
pub AllPass-decimal : (n : ℕ) → n < 2 ^ 32 → AllPass is_ascii_digit (decimal n)
AllPass-decimal n small k d below =
    let e = get_or_default_zero (decimal n) k d below in
    rw e (digit_passes (get_or (decimal n) k 0) (digits_decimal own n (omega arith) k below))

-- they are the digits at the front
pub digits_of_number : (bytes : List ℕ) (n : ℕ) (left : List ℕ) → IsNumber bytes n left → take_while is_ascii_digit bytes ≡ decimal n
digits_of_number bytes n left is =
    ap (take_while is_ascii_digit) is.stands ∙ take_while-front is_ascii_digit (decimal n) left (AllPass-decimal n is.small) is.ends

-- at most one number stands at the front
pub number_is_one : (bytes : List ℕ) (m n : ℕ) (x y : List ℕ) → IsNumber bytes m x → IsNumber bytes n y → (m ≡ n) × (x ≡ y)
number_is_one bytes m n x y first second =
    let digits : decimal m ≡ decimal n = sym (digits_of_number bytes m x first) ∙ digits_of_number bytes n y second in
    let small = first.small in
    let small' = second.small in
    let same = decimal_injective m n (omega (arith, small)) (omega (arith, small')) digits in
    (same, (same_fronts (decimal m) (decimal n) x y (sym first.stands ∙ second.stands) (ap length digits)).1)

-- a piece that is the digits of a number
pub number_found : (bytes digits piece left : List ℕ) (n : ℕ) → digits ≡ take_while is_ascii_digit bytes → n < 2 ^ 32 × (digits ≡ decimal n)
    → IsPiece (length digits) bytes piece left → IsNumber bytes n left
number_found bytes digits piece left n front is piece_is =
    let P : List ℕ → Type 0 = λ ds. IsPiece (length ds) bytes piece left in
    let same = piece-take_while is_ascii_digit bytes piece left (subst P front piece_is) in
    record {
      stands = piece_is.stands ∙ ap (λ (s : List ℕ). s ++ left) (same.0 ∙ sym front ∙ is.1);
      small = is.0;
      ends = same.1;
    }

-- digits that are those of no number
pub number_missed : (bytes digits : List ℕ) (read : Option ℕ) → digits ≡ take_while is_ascii_digit bytes → IsReading digits read → read ≡ None
    → (n : ℕ) (left : List ℕ) → ¬ (IsNumber bytes n left)
number_missed bytes digits read front reading none n left is =
    cc (sym none ∙ (reading n).1 (is.small, front ∙ digits_of_number bytes n left is))
