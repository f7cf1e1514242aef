-- Lower-case hex digits, and the bytes that pairs of them spell.
use Rattle.std.proofs.Common.{◌≡◌, refl, sym, ap, ◌∙◌, ℕ, zero, suc, ◌+◌, ◌-◌, ◌*◌, ◌/◌, ◌%◌, ◌<◌, ◌==◌, Bool, true, false, not, cond, ◌&&◌, ◌||◌, inl, inr, List, [], ◌∷◌, length, nat_lt, arith, lit<}
use Rattle.std.specs.Prelude.{slice_index}
use Rattle.std.specs.List.{AllPass}
use Rattle.std.proofs.lemmas.Bool.{and_parts, cases_lt, eqb-true, ltb-true}
use Rattle.std.proofs.lemmas.List.Elements.{All-cons, All-head, All-nil, All-tail}
use Rattle.hex.specs.Hex.{IsBytes, encode_lower, encode_with, lower_digits}
use Rattle.pj_name.specs.Name.{is_lower_hex_digit}

-- the value of a lower-case digit
abbrev pub digit_value : ℕ → ℕ
digit_value c = cond (nat_lt c 58) (c - 48) (c - 87)

-- a digit is the digit of its value
abbrev is_digit_at_value : ℕ → Bool
is_digit_at_value c = (slice_index lower_digits (digit_value c) == c) && nat_lt (digit_value c) 16

abbrev all_below : (ℕ → Bool) → ℕ → Bool
all_below test zero = true
all_below test (suc n) = test n && all_below test n

all_below-at : (test : ℕ → Bool) (n k : ℕ) → all_below test n ≡ true → k < n → test k ≡ true
all_below-at test zero k h lt = absurd (omega arith)
all_below-at test (suc n) k h lt =
    let parts = and_parts (test n) (all_below test n) h in
    elim (cases_lt k n) [
      | inl below ↦ all_below-at test n k parts.1 below
      | inr top ↦
          let e : k ≡ n = omega arith in
          rw e parts.0
    ]

implied : (a b : Bool) → (not a || b) ≡ true → a ≡ true → b ≡ true
implied true b h t = h
implied false b h t = cc t

small_digit : (c : ℕ) → is_lower_hex_digit c ≡ true → c < 103
small_digit c h = grind (arith)

pub digit_at-value : (c : ℕ) → is_lower_hex_digit c ≡ true → (slice_index lower_digits (digit_value c) ≡ c) × (digit_value c < 16)
digit_at-value c h =
    let test : ℕ → Bool = λ c. not (is_lower_hex_digit c) || is_digit_at_value c in
    let found = implied (is_lower_hex_digit c) (is_digit_at_value c) (all_below-at test 103 c refl (small_digit c h)) h in
    let parts = and_parts _ _ found in
    (eqb-true _ _ parts.0, ltb-true _ _ parts.1)

-- the sixteen digits are lower-case digits
pub is_lower-digit_at : (d : ℕ) → d < 16 → is_lower_hex_digit (slice_index lower_digits d) ≡ true
is_lower-digit_at d lt = all_below-at (λ d. is_lower_hex_digit (slice_index lower_digits d)) 16 d refl lt

-- ---- texts

abbrev IsLower : ℕ → Type 0
IsLower c = is_lower_hex_digit c ≡ true

-- the spelling of bytes is made of lower-case digits
pub AllPass-encode_lower : (bytes : List ℕ) → IsBytes bytes → AllPass is_lower_hex_digit (encode_lower bytes)
unfolding encode_with
AllPass-encode_lower [] small = All-nil IsLower
AllPass-encode_lower (b ∷ rest) small =
    let fits : b < 256 = small 0 in
    let high : b / 16 < 16 = omega arith in
    let low : b % 16 < 16 = omega arith in
    let more = AllPass-encode_lower rest (λ i. small (suc i)) in
    All-cons IsLower (slice_index lower_digits (b / 16)) (slice_index lower_digits (b % 16) ∷ encode_lower rest) (is_lower-digit_at (b / 16) high)
    (All-cons IsLower (slice_index lower_digits (b % 16)) (encode_lower rest) (is_lower-digit_at (b % 16) low) more)

IsBytes-cons : (b : ℕ) (rest : List ℕ) → b < 256 → IsBytes rest → IsBytes (b ∷ rest)
IsBytes-cons b rest fits small zero = fits
IsBytes-cons b rest fits small (suc i) = small i

-- the bytes that a text of pairs of lower-case digits spells
pub record Spelled (text : List ℕ) (n : ℕ) : Type 0 where
  pub bytes : List ℕ
  pub count : length bytes ≡ n
  pub small : IsBytes bytes
  pub spelling : text ≡ encode_lower bytes

-- one pair more
spelled-more : (a b n : ℕ) (rest : List ℕ) → is_lower_hex_digit a ≡ true → is_lower_hex_digit b ≡ true → Spelled rest n → Spelled (a ∷ b ∷ rest) (suc n)
unfolding encode_with
spelled-more a b n rest ha hb more =
    let high = digit_at-value a ha in
    let low = digit_at-value b hb in
    let byte : ℕ = digit_value a * 16 + digit_value b in
    let upper : byte / 16 ≡ digit_value a = omega arith in
    let under : byte % 16 ≡ digit_value b = omega arith in
    let first : a ≡ slice_index lower_digits (byte / 16) = sym (high.0) ∙ ap (slice_index lower_digits) (sym upper) in
    let second : b ≡ slice_index lower_digits (byte % 16) = sym (low.0) ∙ ap (slice_index lower_digits) (sym under) in
    record {
      bytes = byte ∷ more.bytes;
      count = ap suc more.count;
      small = IsBytes-cons byte more.bytes (omega arith) more.small;
      spelling = λ i. first i ∷ second i ∷ more.spelling i;
    }

pub spelled : (text : List ℕ) (n : ℕ) → length text ≡ 2 * n → AllPass is_lower_hex_digit text → Spelled text n
unfolding encode_with
spelled [] zero len lower = record { bytes = []; count = refl; small = λ i. lit< tt; spelling = refl }
spelled [] (suc n) len lower = absurd (omega arith)
spelled (a ∷ []) n len lower = absurd (omega arith)
spelled (a ∷ b ∷ rest) zero len lower = absurd (omega arith)
spelled (a ∷ b ∷ rest) (suc n) len lower =
    let tail = All-tail IsLower a (b ∷ rest) lower in
    let more = spelled rest n (omega arith) (All-tail IsLower b rest tail) in
    spelled-more a b n rest (All-head IsLower a (b ∷ rest) lower) (All-head IsLower b rest tail) more
