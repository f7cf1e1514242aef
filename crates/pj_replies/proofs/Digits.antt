-- Numbers whose digits are read one after the other.
use Rattle.std.proofs.Common.{◌≡◌, ℕ, zero, suc, ◌+◌, ◌*◌, ◌-◌, ◌/◌, ◌%◌, ◌<◌, ◌≤◌, ◌^◌, Bool, true, false, Option, Some, None, List, [], ◌∷◌, ◌++◌, length, take, drop, get_or, decimal, refl, sym, ◌∙◌, ap, subst, inl, inr, arith, append-nil, append_assoc, length-append}
use Rattle.std.specs.Prelude.{◌↔◌, ◌⊎◌}
use Rattle.std.specs.List.{AllPass}
use Rattle.std.specs.Int.{IsInRange}
use Rattle.std.specs.Str.Parse.{digits_value}
use Rattle.std.proofs.lemmas.Bool.{cases_lt}
use Rattle.std.proofs.lemmas.List.{same_from_push, get_or_append_left, get_or_at, take_at, take_more, drop_more, take-append-drop}
use Rattle.std.proofs.lemmas.List.Elements.{All-nil, All-cons, All-append}
use Rattle.std.proofs.lemmas.Fmt.{decimal_digit, decimal_step, decimal_injective, decimal_nonempty, decimal-digits_value, digits_decimal, digits_value-decimal, first_decimal, length-decimal-le}
use Rattle.std.proofs.lemmas.Str.Parse.{digits_value-take-le}
use Rattle.std.proofs.lemmas.Option.{none-some}
use Rattle.pj_scan.specs.Scan.{is_word_byte}
use Rattle.pj_wire.specs.Spelled.{EndsWithin}
use Rattle.pj_wire.proofs.Numbers.{own}
use Rattle.pj_wire.proofs.Words.{AreDigits, number_inside, ended_words, open_word, ends_word}
use Rattle.pj_wire.proofs.FieldLaws.{one_field}
use Rattle.pj_replies.specs.Apart.{IsSpelled, IsApart}
use Rattle.pj_replies.specs.Digits.{digits_read, IsBelow}

-- of a number's digits the first few write a number that is not greater
pub shorter : (digits more : List ℕ) (n : ℕ) → n < 2 ^ 64 → 0 < length digits → digits ++ more ≡ decimal n → (m : ℕ) × (m ≤ n) × (digits ≡ decimal m)
shorter digits more n small some e =
    let value : digits_value 10 (decimal n) ≡ n = digits_value-decimal own n small in
    let front : take (length digits) (decimal n) ≡ digits = ap (λ (s : List ℕ). take (length digits) s) (sym e) ∙ take_at digits more (length digits) refl in
    let less : digits_value 10 (take (length digits) (decimal n)) ≤ digits_value 10 (decimal n) = digits_value-take-le 10 (decimal n) (length digits) (omega arith) in
    let same : digits_value 10 (take (length digits) (decimal n)) ≡ digits_value 10 digits = ap (digits_value 10) front in
    let below : digits_value 10 digits ≤ n = omega (arith, less, same, value) in
    let count : length digits + length more ≡ length (decimal n) = sym (length-append digits more) ∙ ap (λ (s : List ℕ). length s) e in
    let at : (i : ℕ) → i < length digits → get_or digits i 0 ≡ get_or (decimal n) i 0 = λ i lt. sym (get_or_append_left digits more 0 i lt) ∙ ap (λ (s : List ℕ). get_or s i 0) e in
    let all : AreDigits (decimal n) = digits_decimal own n small in
    let are : AreDigits digits = λ i lt. subst (IsInRange 48 57) (sym (at i lt)) (all i (omega (arith, count, lt))) in
    (digits_value 10 digits, below, sym (decimal-digits_value own digits are some (λ first. one n small count (sym (at 0 some) ∙ first)) (omega (arith, below, small))))
  where
    one : (n : ℕ) → n < 2 ^ 64 → length digits + length more ≡ length (decimal n) → get_or (decimal n) 0 0 ≡ 48 → length digits ≡ 1
    one zero small count first =
        let short = length-decimal-le 1 0 (omega arith) (omega arith) (omega arith) in
        omega (arith, count, short, some)
    one (suc n) small count first = absurd (omega (arith, first_decimal (suc n) (omega arith) small, first))

-- ---- one more digit

-- the digits write these numbers, as far as they are at most so great
abbrev pub Writes : ℕ → List ℕ → Option ℕ → Type 0
Writes most digits read = (n : ℕ) → (read ≡ Some n) ↔ ((n ≤ most) × (digits ≡ decimal n))

-- they write this one
pub writes : (most : ℕ) (digits : List ℕ) (m : ℕ) → most < 2 ^ 64 → m ≤ most → digits ≡ decimal m → Writes most digits (Some m)
writes most digits m small few is n = (
  λ e. let same : m ≡ n = some_same m n e in (omega (arith, same, few), is ∙ ap decimal same),
  λ h. let low = h.0 in ap Some (decimal_injective m n (omega (arith, few, small)) (omega (arith, low, small)) (sym is ∙ h.1)),
)
  where
    some_same : (m n : ℕ) → Some m ≡ Some n → m ≡ n
    some_same m n e = cc

-- they write none
pub writes_none : (most : ℕ) (digits : List ℕ) → ((n : ℕ) → n ≤ most → digits ≡ decimal n → ⊥) → Writes most digits None
writes_none most digits none n = (λ e. absurd (none-some n e), λ h. absurd (none n h.0 h.1))

-- one digit alone
pub one_digit : (byte : ℕ) → 48 ≤ byte → byte ≤ 57 → byte ∷ [] ≡ decimal (byte - 48)
one_digit byte low high = ap (λ (b : ℕ). b ∷ []) (omega (arith, low)) ∙ sym (decimal_digit (byte - 48) (omega (arith, low, high)))

-- one more digit behind others
pub next_digit : (tens byte : ℕ) → 0 < tens → tens * 10 + (byte - 48) < 2 ^ 64 → 48 ≤ byte → byte ≤ 57 → decimal tens ++ byte ∷ [] ≡ decimal (tens * 10 + (byte - 48))
next_digit tens byte some small low high =
    let n : ℕ = tens * 10 + (byte - 48) in
    let quotient : n / 10 ≡ tens = omega (arith, low, high) in
    let digit : 48 + n % 10 ≡ byte = omega (arith, low, high) in
    ap (λ (t : ℕ). decimal t ++ byte ∷ []) (sym quotient) ∙ ap (λ (b : ℕ). decimal (n / 10) ++ b ∷ []) (sym digit)
    ∙ sym (decimal_step n (omega (arith, some)) small)

-- the last byte of a number is a digit
last_byte : (digits : List ℕ) (byte n : ℕ) → n < 2 ^ 64 → digits ++ byte ∷ [] ≡ decimal n → IsInRange 48 57 byte
last_byte digits byte n small is =
    let all : AreDigits (decimal n) = digits_decimal own n small in
    let at : get_or (decimal n) (length digits) 0 ≡ byte = ap (λ (s : List ℕ). get_or s (length digits) 0) (sym is) ∙ get_or_at digits byte [] 0 (length digits) refl in
    let count : length (decimal n) ≡ length digits + 1 = ap (λ (s : List ℕ). length s) (sym is) ∙ length-append digits (byte ∷ []) in
    subst (IsInRange 48 57) at (all (length digits) (omega (arith, count)))

-- another byte ends no number
pub no_digit : (digits : List ℕ) (byte n : ℕ) → (48 ≤ byte → byte ≤ 57 → ⊥) → n < 2 ^ 64 → digits ++ byte ∷ [] ≡ decimal n → ⊥
no_digit digits byte n other small is = let digit = last_byte digits byte n small is in other (omega (arith, digit)) (omega (arith, digit))

-- two digits or more write the number of those before the last, and the last
pub more_digits : (tens byte n : ℕ) → tens < 2 ^ 64 → n < 2 ^ 64 → decimal tens ++ byte ∷ [] ≡ decimal n → (0 < tens) × (n ≡ tens * 10 + (byte - 48))
more_digits tens byte n few small is =
    let some = decimal_nonempty tens few in
    let count : length (decimal n) ≡ length (decimal tens) + 1 = ap (λ (s : List ℕ). length s) (sym is) ∙ length-append (decimal tens) (byte ∷ []) in
    let long = large n count some small in
    let both = same_from_push (decimal tens) (decimal (n / 10)) byte (48 + n % 10) (is ∙ decimal_step n long small) in
    let quotient = decimal_injective tens (n / 10) few (omega (arith, small)) both.0 in
    let digit = both.1 in
    (omega (arith, quotient, long), omega (arith, quotient, digit))
  where
    large : (n : ℕ) → length (decimal n) ≡ length (decimal tens) + 1 → 0 < length (decimal tens) → n < 2 ^ 64 → 10 ≤ n
    large n count some small = elim (cases_lt n 10) [ inl low ↦ absurd (one low) | inr high ↦ high ]
      where
        one : n < 10 → ⊥
        one low = let short : length (decimal n) ≡ 1 = ap (λ (s : List ℕ). length s) (decimal_digit n low) in omega (arith, short, count, some)

-- a digit that is too great already
pub too_great : (most byte : ℕ) (read : Option ℕ) → most < 2 ^ 64 → IsBelow most read → 48 ≤ byte → byte ≤ 57 → most < byte - 48 → Writes most (digits_read read ++ byte ∷ []) None
too_great most byte None small below low high great =
    writes_none most (byte ∷ [])
    (λ n few e. let same = decimal_injective (byte - 48) n (omega (arith, high)) (omega (arith, few, small)) (sym (one_digit byte low high) ∙ e) in omega (arith, same, few, great))
too_great most byte (Some tens) small below low high great =
    writes_none most (decimal tens ++ byte ∷ [])
    (λ n few e. let both = more_digits tens byte n (omega (arith, below, small)) (omega (arith, few, small)) e in let number = both.1 in omega (arith, number, few, great))

-- ---- numbers at the beginning of bytes

module _ (most end : ℕ) (small : most < 2 ^ 64) (ends : (end ≡ 32) ⊎ (end ≡ 10)) where
  -- a number and the byte that ends it
  abbrev pub field : ℕ → List ℕ
  field n = decimal n ++ end ∷ []

  -- a number that is not above the most
  abbrev pub IsFew : ℕ → Type 0
  IsFew n = n ≤ most

  -- the digits that were read are bytes of a word
  read_inside : (read : Option ℕ) → IsBelow most read → AllPass is_word_byte (digits_read read)
  read_inside None h = All-nil (λ b. is_word_byte b ≡ true)
  read_inside (Some n) h = number_inside n (omega (arith, h, small))

  -- the byte that ends the number, behind its digits
  pub ended : (bytes : List ℕ) (n place : ℕ) → n ≤ most → place < length bytes → take place bytes ≡ decimal n → get_or bytes place 0 ≡ end → IsSpelled field IsFew bytes n (place + 1)
  ended bytes n place few within read at = record {
    allowed = few;
    within = omega (arith, within);
    stands = sym (take-append-drop (place + 1) bytes) ∙ ap (λ t. t ++ drop (place + 1) bytes)
        (take_more bytes place 0 within ∙ ap (λ t. t ++ get_or bytes place 0 ∷ []) read ∙ ap (λ (b : ℕ). decimal n ++ b ∷ []) at);
  }

  -- it is not there where these digits and this byte write no number, and do not end one
  pub apart : (bytes : List ℕ) (read : Option ℕ) (place : ℕ) → IsBelow most read → place < length bytes → take place bytes ≡ digits_read read
      → ((n : ℕ) → n ≤ most → digits_read read ++ get_or bytes place 0 ∷ [] ≡ decimal n → ⊥) → ((n : ℕ) → n ≤ most → digits_read read ≡ decimal n → get_or bytes place 0 ≡ end → ⊥)
      → IsApart field IsFew bytes
  apart bytes read place below within taken no_more no_end = record {
    has_none = λ n left few e. none n [] left few (append-nil bytes ∙ e ∙ append_assoc (decimal n) (end ∷ []) left);
    begins_none = λ n more few e. none n more [] few e;
  }
    where
      stands : bytes ≡ digits_read read ++ get_or bytes place 0 ∷ drop (place + 1) bytes
      stands = sym (take-append-drop place bytes) ∙ ap (λ t. t ++ drop place bytes) taken ∙ ap (λ t. digits_read read ++ t) (drop_more bytes place 0 within)

      none : (n : ℕ) (more left : List ℕ) → n ≤ most → bytes ++ more ≡ decimal n ++ end ∷ left → ⊥
      none n more left few e = by (is_word_byte (get_or bytes place 0)) refl
        where
          whole : digits_read read ++ get_or bytes place 0 ∷ (drop (place + 1) bytes ++ more) ≡ decimal n ++ end ∷ left
          whole = sym (append_assoc (digits_read read) (get_or bytes place 0 ∷ drop (place + 1) bytes) more) ∙ ap (λ t. t ++ more) (sym stands) ∙ e

          by : (inside : Bool) → is_word_byte (get_or bytes place 0) ≡ inside → ⊥
          by true is =
              let all : AllPass is_word_byte (digits_read read ++ get_or bytes place 0 ∷ []) =
              All-append (λ c. is_word_byte c ≡ true) (digits_read read) (get_or bytes place 0 ∷ []) (read_inside read below) (All-cons (λ c. is_word_byte c ≡ true) (get_or bytes place 0) [] is (All-nil (λ c. is_word_byte c ≡ true))) in
              let grown = open_word (digits_read read ++ get_or bytes place 0 ∷ []) (decimal n) (drop (place + 1) bytes ++ more) left end all (ends_word end ends) (append_assoc (digits_read read) (get_or bytes place 0 ∷ []) (drop (place + 1) bytes ++ more) ∙ whole) in
              let short = shorter (digits_read read ++ get_or bytes place 0 ∷ []) grown.0 n (omega (arith, few, small)) (omega (arith, length-append (digits_read read) (get_or bytes place 0 ∷ []))) grown.1 in
              let less = short.1 in
              no_more short.0 (omega (arith, less, few)) short.2
          by false is =
              let same = ended_words (digits_read read) (decimal n) (drop (place + 1) bytes ++ more) left (get_or bytes place 0) end (read_inside read below) (number_inside n (omega (arith, few, small))) is (ends_word end ends) whole in
              no_end n few same.0 same.1

  -- the byte that ends a number stands there before any digit
  pub early : (bytes : List ℕ) (read : Option ℕ) (place : ℕ) → read ≡ None → place < length bytes → take place bytes ≡ digits_read read → get_or bytes place 0 ≡ end → IsApart field IsFew bytes
  early bytes read place none within taken at =
      apart bytes None place tt within (taken ∙ ap digits_read none)
      (λ n few e. no_digit [] end n (λ low high. elim ends [ inl is ↦ omega (arith, is, low) | inr is ↦ omega (arith, is, low) ]) (omega (arith, few, small)) (ap (λ (b : ℕ). b ∷ []) (sym at) ∙ e))
      (λ n few e is. let some = decimal_nonempty n (omega (arith, few, small)) in let none : 0 ≡ length (decimal n) = ap (λ (t : List ℕ). length t) e in omega (arith, some, none))

  -- digits that write a number, or none yet, are less than a number with what ends it
  pub less : (bytes : List ℕ) (read : Option ℕ) → IsBelow most read → bytes ≡ digits_read read → EndsWithin field IsFew bytes
  less bytes None below is = record {
    value = 0;
    allowed = omega arith;
    missing = decimal 0 ++ end ∷ [];
    whole = ap (λ t. t ++ (decimal 0 ++ end ∷ [])) is;
    some = omega (arith, length-append (decimal 0) (end ∷ []));
  }
  less bytes (Some n) below is = record { value = n; allowed = below; missing = end ∷ []; whole = ap (λ t. t ++ end ∷ []) is; some = omega arith }

  -- a number shows where it ends
  pub one_number : (n m : ℕ) (a b : List ℕ) → n ≤ most → m ≤ most → field n ++ a ≡ field m ++ b → (n ≡ m) × (a ≡ b)
  one_number n m a b low few e =
      one_field decimal IsFew (λ k ok. number_inside k (omega (arith, ok, small))) end (ends_word end ends)
      (λ k l ok also same. decimal_injective k l (omega (arith, ok, small)) (omega (arith, also, small)) same) n m a b low few e
