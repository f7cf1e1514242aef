-- Words that are numbers.
use Rattle.std.proofs.Common.{◌≡◌, ◌≢◌, ℕ, ◌<◌, ◌^◌, ◌&&◌, nat_lt, Bool, true, false, List, [], ◌∷◌, ◌++◌, length, Some, None, refl, sym, ◌∙◌, ap, arith, append-nil}
use Rattle.std.specs.Prelude.{decimal, if◌then◌else◌}
use Rattle.std.specs.Str.{bytes_eq}
use Rattle.std.specs.Str.Parse.{digits_value}
use Rattle.std.proofs.lemmas.Fmt.{decimal_is_IsNumeral}
use Rattle.std.proofs.lemmas.Slice.Eq.{bytes_eq-Decides}
use Rattle.pj_scan.specs.Scan.{IsNumber}
use Rattle.pj_scan.proofs.Numerals.{number_is_one}
use Rattle.pj_words.specs.Words.{number_of}

-- a list of no length
pub none_left : (xs : List ℕ) → length xs ≡ 0 → xs ≡ []
none_left [] e = refl
none_left (x ∷ xs) e = absurd (omega arith)

-- digits that are a number's
pub number_read : (text : List ℕ) (n : ℕ) → n < 2 ^ 32 → text ≡ decimal n → Some n ≡ number_of text
number_read text n small is =
    let value : digits_value 10 text ≡ n = ap (digits_value 10) is ∙ (decimal_is_IsNumeral n (omega (arith, small))).1 in
    let same : bytes_eq text (decimal (digits_value 10 text)) ≡ true = (bytes_eq-Decides text (decimal (digits_value 10 text))).1 (is ∙ ap decimal (sym value)) in
    let low : nat_lt (digits_value 10 text) (2 ^ 32) ≡ true = grind (arith, value, small) in
    sym (ap (λ b. if b && nat_lt (digits_value 10 text) (2 ^ 32) then Some (digits_value 10 text) else None) same ∙ ap (λ b. if b then Some (digits_value 10 text) else None) low ∙ ap Some value)

-- no number has these digits
pub number_missing : (text : List ℕ) → ((n : ℕ) → n < 2 ^ 32 → text ≢ decimal n) → None ≡ number_of text
number_missing text none = by_tests (bytes_eq text (decimal (digits_value 10 text))) (nat_lt (digits_value 10 text) (2 ^ 32)) refl refl
  where
    by_tests : (a b : Bool) → a ≡ bytes_eq text (decimal (digits_value 10 text)) → b ≡ nat_lt (digits_value 10 text) (2 ^ 32) → None ≡ (if a && b then Some (digits_value 10 text) else None)
    by_tests true true same low =
        let small : digits_value 10 text < 2 ^ 32 = grind (arith, low) in
        absurd (none (digits_value 10 text) small ((bytes_eq-Decides text (decimal (digits_value 10 text))).0 (sym same)))
    by_tests true false same low = refl
    by_tests false b same low = refl

-- digits that are all of a number
all_of_number : (text : List ℕ) (n : ℕ) → n < 2 ^ 32 → text ≡ decimal n → IsNumber text n []
all_of_number text n small is = record { stands = is ∙ sym (append-nil (decimal n)); small = small; ends = tt }

-- no number stands at the front
pub none_at_front : (text : List ℕ) → ((n : ℕ) (behind : List ℕ) → ¬ IsNumber text n behind) → None ≡ number_of text
none_at_front text none = number_missing text (λ n small is. none n [] (all_of_number text n small is))

-- a number stands at the front, and it is all
pub whole_number : (text left : List ℕ) (n : ℕ) → IsNumber text n left → left ≡ [] → Some n ≡ number_of text
whole_number text left n is none = number_read text n is.small (is.stands ∙ ap (λ l. decimal n ++ l) none ∙ append-nil (decimal n))

-- a number stands at the front, and more
pub number_and_more : (text left : List ℕ) (n : ℕ) → IsNumber text n left → left ≢ [] → None ≡ number_of text
number_and_more text left n is some = number_missing text (λ m small whole. some (number_is_one text n m left [] is (all_of_number text m small whole)).1)
