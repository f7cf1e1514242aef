-- Tokens, lines, numbers, names and references: what is read stands there, and what stands there is read.
use Rattle.std.proofs.Common.{◌≡◌, ℕ, zero, suc, ◌^◌, ◌<◌, Bool, true, false, not, ◌&&◌, eqb, leb, ltb, List, [], ◌∷◌, ◌++◌, length, get_or, take, drop, Some, refl, sym, ap, ◌∙◌, append_assoc, arith, inl, inr, lit<}
use Rattle.std.specs.Prelude.{codes, decimal}
use Rattle.std.specs.Char.{is_ascii_digit}
use Rattle.std.specs.Str.Parse.{digits_value, AllDigits}
use Rattle.std.proofs.lemmas.Bool.{and_parts, and_from, leb-true, le-leb, eqb-true, eqb-false, ne_eqb, cases_Bool, true≢false, lt-ltb, ltb-true, not-true}
use Rattle.std.proofs.lemmas.Bool.Decides.{Decides-eqb}
use Rattle.std.proofs.lemmas.List.{take-append-drop, drop_at, take_at, length-append, length-take-le}
use Rattle.std.proofs.lemmas.Slice.Eq.{starts_is}
use Rattle.std.proofs.lemmas.Str.Parse.{numerals_by_value, tells_digits, IsNumeralModel}
use Rattle.std.proofs.lemmas.Fmt.{decimal_is_IsNumeral, decimal-digits_value, first_decimal, decimal_digit}
use Rattle.pj_change.specs.declared.point.Ref.{Ref}
use Rattle.pj_change.specs.declared.point.Ref.TheVariants.{Root, At}
use Rattle.pj_change.specs.Text.{reference}
use Rattle.pj_change.specs.Rules.{lacks}
use Rattle.pj_text.specs.Reading.{begins, token_at, bytes_at, line_at, digits_of, is_plain, number_at, reference_at}
use Rattle.pj_text.proofs.Gets.{Gets, gets_some, gets_none, gets_then, gets_if, gets_either}

-- ---- tokens

-- what a test of the front says
pub begins_is : (word bytes : List ℕ) → begins word bytes ≡ true → bytes ≡ word ++ drop (length word) bytes
begins_is word bytes h = (starts_is Decides-eqb bytes word (begins word bytes) refl).0 h

pub begins_with : (word rest : List ℕ) → begins word (word ++ rest) ≡ true
begins_with word rest = (starts_is Decides-eqb (word ++ rest) word (begins word (word ++ rest)) refl).1 rest refl

pub token_spelled : (word bytes : List ℕ) → Gets (token_at word bytes) (λ x. bytes ≡ word ++ x.1)
unfolding token_at
token_spelled word bytes = gets_if _ _ (λ h. gets_some _ (begins_is word bytes h))

pub token_read : (word rest : List ℕ) → token_at word (word ++ rest) ≡ Some (tt, rest)
unfolding token_at
token_read word rest = rw (begins_with word rest, drop_at word rest (length word) refl) refl

-- ---- bytes and lines

pub bytes_spelled : (n : ℕ) (bytes : List ℕ) → Gets (bytes_at n bytes) (λ x. (bytes ≡ x.0 ++ x.1) × (length x.0 ≡ n))
unfolding bytes_at
bytes_spelled n bytes =
    gets_if _ _ (λ h. gets_some (take n bytes, drop n bytes) (sym (take-append-drop n bytes), length-take-le n bytes (leb-true n (length bytes) h)))

pub bytes_read : (bytes rest : List ℕ) → bytes_at (length bytes) (bytes ++ rest) ≡ Some (bytes, rest)
unfolding bytes_at
bytes_read bytes rest =
    let long : leb (length bytes) (length (bytes ++ rest)) ≡ true = le-leb _ _ (omega (arith, length-append bytes rest)) in
    rw (long, take_at bytes rest (length bytes) refl, drop_at bytes rest (length bytes) refl) refl

pub line_spelled : (bytes : List ℕ) → Gets (line_at bytes) (λ x. bytes ≡ x.0 ++ 10 ∷ x.1)
unfolding line_at
line_spelled [] = gets_none
line_spelled (b ∷ bytes) =
    gets_either _ _ _ (λ h. gets_some _ (ap (λ (n : ℕ). n ∷ bytes) (eqb-true b 10 h)))
    (gets_then _ _ (line_spelled bytes) (λ x h. gets_some _ (ap (λ (t : List ℕ). b ∷ t) h)))

pub line_read : (bytes rest : List ℕ) → lacks 10 bytes ≡ true → line_at (bytes ++ 10 ∷ rest) ≡ Some (bytes, rest)
unfolding line_at
line_read [] rest h = refl
line_read (b ∷ bytes) rest h =
    let p = and_parts (not (eqb b 10)) (lacks 10 bytes) h in rw (not-true _ p.0, line_read bytes rest p.1) refl

-- ---- numbers

-- no digit comes next
abbrev pub stops : List ℕ → Bool
stops [] = true
stops (b ∷ bytes) = not (is_ascii_digit b)

pub digits_front : (bytes : List ℕ) → bytes ≡ digits_of bytes ++ drop (length (digits_of bytes)) bytes
unfolding digits_of
digits_front [] = refl
digits_front (b ∷ bytes) =
    elim (cases_Bool (is_ascii_digit b)) [ inl t ↦ rw t (ap (λ (u : List ℕ). b ∷ u) (digits_front bytes)) | inr f ↦ rw f refl ]

pub digits_are : (bytes : List ℕ) → AllDigits 10 (digits_of bytes)
unfolding digits_of
digits_are [] = tt
digits_are (b ∷ bytes) =
    elim (cases_Bool (is_ascii_digit b)) [
      | inl t ↦
          let p = and_parts (leb 48 b) (leb b 57) t in
          rw t (tells_digits.more b (digits_of bytes) (leb-true 48 b p.0, leb-true b 57 p.1) (digits_are bytes))
      | inr f ↦ rw f tt
    ]

pub digits_again : (ds rest : List ℕ) → AllDigits 10 ds → stops rest ≡ true → digits_of (ds ++ rest) ≡ ds
unfolding digits_of
digits_again [] [] h s = refl
digits_again [] (b ∷ rest) h s = rw (not-true _ s) refl
digits_again (d ∷ ds) rest h s =
    let p = tells_digits.parts d ds h in
    let is : is_ascii_digit d ≡ true = and_from _ _ (le-leb 48 d p.0.0) (le-leb d 57 p.0.1) in
    rw (is, digits_again ds rest p.1 s) refl

-- no digit comes after the digits at the front
pub digits_stop : (bytes : List ℕ) → stops (drop (length (digits_of bytes)) bytes) ≡ true
unfolding digits_of
digits_stop [] = refl
digits_stop (b ∷ bytes) =
    elim (cases_Bool (is_ascii_digit b)) [ inl t ↦ rw t (digits_stop bytes) | inr f ↦ rw (f, f) refl ]

own : IsNumeralModel (AllDigits 10) (digits_value 10)
own = numerals_by_value (AllDigits 10) tells_digits

plain_parts : (ds : List ℕ) → is_plain ds ≡ true → (0 < length ds) × (get_or ds 0 0 ≡ 48 → length ds ≡ 1)
unfolding is_plain
plain_parts [] h = absurd (true≢false (sym h))
plain_parts (b ∷ []) h = (omega arith, λ e. refl)
plain_parts (b ∷ c ∷ ds) h = (omega arith, λ e. absurd (eqb-false b 48 (not-true _ h) e))

plain_first : (ds : List ℕ) → 48 < get_or ds 0 0 → is_plain ds ≡ true
unfolding is_plain
plain_first [] h = absurd (omega (arith, h))
plain_first (b ∷ []) h = refl
plain_first (b ∷ c ∷ ds) h = rw (ne_eqb b 48 (λ e. omega (arith, h, e))) refl

plain_decimal : (n : ℕ) → n < 2 ^ 32 → is_plain (decimal n) ≡ true
unfolding is_plain
plain_decimal zero small = rw (decimal_digit 0 (lit< tt)) refl
plain_decimal (suc n) small = plain_first (decimal (suc n)) (first_decimal (suc n) (omega arith) (omega (arith, small)))

-- a number, and what comes after it
pub record IsNumeral (bytes : List ℕ) (n : ℕ) (rest : List ℕ) : Type 0 where
  pub stands : bytes ≡ decimal n ++ rest
  pub small : n < 2 ^ 32
  pub ends : stops rest ≡ true

pub number_spelled : (bytes : List ℕ) → Gets (number_at bytes) (λ x. IsNumeral bytes x.0 x.1)
unfolding number_at
number_spelled bytes =
    let ds = digits_of bytes in
    let rest = drop (length ds) bytes in
    gets_if (is_plain ds && ltb (digits_value 10 ds) (2 ^ 32)) (Some (digits_value 10 ds, rest)) (λ h.
    let p = and_parts (is_plain ds) (ltb (digits_value 10 ds) (2 ^ 32)) h in
    let small : digits_value 10 ds < 2 ^ 32 = ltb-true _ _ p.1 in
    let plain = plain_parts ds p.0 in
    let is : decimal (digits_value 10 ds) ≡ ds = decimal-digits_value own ds (digits_are bytes) plain.0 plain.1 (omega (arith, small)) in
    gets_some (digits_value 10 ds, rest) (record { stands = digits_front bytes ∙ ap (λ (t : List ℕ). t ++ rest) (sym is); small = small; ends = digits_stop bytes }))

pub number_read : (n : ℕ) (rest : List ℕ) → n < 2 ^ 32 → stops rest ≡ true → number_at (decimal n ++ rest) ≡ Some (n, rest)
unfolding number_at
number_read n rest small s =
    let numeral = decimal_is_IsNumeral n (omega (arith, small)) in
    let front : digits_of (decimal n ++ rest) ≡ decimal n = digits_again (decimal n) rest numeral.0.1 s in
    rw (front, plain_decimal n small, numeral.1, lt-ltb n (2 ^ 32) small, drop_at (decimal n) rest (length (decimal n)) refl) refl

-- ---- references

-- the numbers of a reference are below 2^32
abbrev pub IsSmall : Ref → Type 0
IsSmall Root = Unit {0}
IsSmall (At owner offset) = (owner < 2 ^ 32) × (offset < 2 ^ 32)

pub reference_spelled : (bytes : List ℕ) → Gets (reference_at bytes) (λ x. bytes ≡ reference x.0 ++ x.1)
unfolding reference_at reference
reference_spelled bytes =
    gets_either _ _ _ (λ h. gets_then _ _ (token_spelled (codes "root") bytes) (λ first f. gets_some (Root, first.1) f))
    (gets_then _ _ (number_spelled bytes) (λ owner o.
    gets_then _ _ (token_spelled (codes ".") owner.1) (λ point p.
    gets_then _ _ (number_spelled point.1) (λ offset q.
    gets_some _ (rw (o.stands, p, q.stands) (simp append_assoc))))))

-- digits do not begin with another byte
pub digits_begin : (c : ℕ) (word ds rest : List ℕ) → is_ascii_digit c ≡ false → 0 < length ds → AllDigits 10 ds → begins (c ∷ word) (ds ++ rest) ≡ false
digits_begin c word [] rest other long h = absurd (omega (arith, long))
digits_begin c word (d ∷ ds) rest other long h =
    let digit = (tells_digits.parts d ds h).0 in
    let is : is_ascii_digit d ≡ true = and_from _ _ (le-leb 48 d digit.0) (le-leb d 57 digit.1) in
    rw (ne_eqb c d (λ e. true≢false (sym is ∙ sym (ap is_ascii_digit e) ∙ other))) refl

-- a number does not begin with another byte
pub number_begins : (c : ℕ) (word : List ℕ) (n : ℕ) (rest : List ℕ) → is_ascii_digit c ≡ false → n < 2 ^ 32 → begins (c ∷ word) (decimal n ++ rest) ≡ false
number_begins c word n rest other small =
    let numeral = (decimal_is_IsNumeral n (omega (arith, small))).0 in
    digits_begin c word (decimal n) rest other numeral.0 numeral.1

pub reference_read : (at : Ref) (rest : List ℕ) → IsSmall at → stops rest ≡ true → reference_at (reference at ++ rest) ≡ Some (at, rest)
unfolding reference_at reference
reference_read Root rest small s = rw (token_read (codes "root") rest) refl
reference_read (At owner offset) rest small s =
    let regrouped : (decimal owner ++ codes "." ++ decimal offset) ++ rest ≡ decimal owner ++ (46 ∷ (decimal offset ++ rest)) = simp append_assoc in
    ap reference_at regrouped
    ∙ rw (number_begins 114 (codes "oot") owner (46 ∷ (decimal offset ++ rest)) refl small.0, number_read owner (46 ∷ (decimal offset ++ rest)) small.0 refl, token_read (codes ".") (decimal offset ++ rest), number_read offset rest small.1 s) refl

-- a reference does not begin with `-`
pub reference_begins : (at : Ref) (rest : List ℕ) → IsSmall at → begins (codes "-") (reference at ++ rest) ≡ false
unfolding reference
reference_begins Root rest small = refl
reference_begins (At owner offset) rest small =
    let regrouped : (decimal owner ++ codes "." ++ decimal offset) ++ rest ≡ decimal owner ++ (46 ∷ (decimal offset ++ rest)) = simp append_assoc in
    ap (begins (codes "-")) regrouped ∙ number_begins 45 [] owner (46 ∷ (decimal offset ++ rest)) refl small.0
