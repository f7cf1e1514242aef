-- The lowest bit of a word that is set, and words without their low bits.
use Rattle.std.proofs.Common.{◌≡◌, ◌≢◌, ℕ, ◌+◌, ◌-◌, ◌*◌, ◌%◌, ◌^◌, ◌<◌, ◌≤◌, true, false, List, get_or, nat_eq, refl, sym, ◌∙◌, ap, subst, inl, inr, arith}
use Rattle.std.specs.Int.{bit_at, bit_not, w64, trailing_zeros}
use lib.Bits.{bit_and}
use Rattle.std.proofs.lemmas.Bool.{cases_lt}
use Rattle.std.proofs.lemmas.Nat.{div-mul-add, mod-mul-add, and_le_l}
use Rattle.std.proofs.lemmas.Nat.Bits.{ones_shl, bit_at_and, bit_at-lt, bit_at-zero, bit_at_mask_inside, bit_at_mask_below, bit_at_clear_same, bit_at_clear_other, bit_at-trailing_zeros}
use Rattle.pj_bits.specs.Words.{column_bit}

-- ---- masks

pub masked_below : (word k j : ℕ) → k < 64 → j < k → bit_at (bit_and word (18446744073709551615 * 2 ^ k % 18446744073709551616)) j ≡ 0
masked_below word k j within below =
    let mask : 18446744073709551615 * 2 ^ k % 18446744073709551616 ≡ 2 ^ 64 - 2 ^ k = ones_shl 64 k (omega arith) in
    rw mask (bit_at_and word (2 ^ 64 - 2 ^ k) j ∙ (let e = bit_at_mask_below k 64 j below in omega arith))

pub masked_above : (word k j : ℕ) → k < 64 → k ≤ j → j < 64 → bit_at (bit_and word (18446744073709551615 * 2 ^ k % 18446744073709551616)) j ≡ bit_at word j
masked_above word k j within above inside =
    let mask : 18446744073709551615 * 2 ^ k % 18446744073709551616 ≡ 2 ^ 64 - 2 ^ k = ones_shl 64 k (omega arith) in
    rw mask (bit_at_and word (2 ^ 64 - 2 ^ k) j ∙ (let e = bit_at_mask_inside k 64 j above inside in let f = bit_at-lt word j in omega arith))

-- ---- the bits of one word among the columns

pub column_at : (words : List ℕ) (at j : ℕ) → j < 64 → column_bit words (at * 64 + j) ≡ nat_eq (bit_at (get_or words at 0) j) 1
unfolding column_bit
column_at words at j h = rw (div-mul-add at 64 j h, mod-mul-add at 64 j h) refl

-- what holds of each column of the word at a place holds of all of them
pub each_column : (P : ℕ → Type 0) (at : ℕ) → ((j : ℕ) → j < 64 → P (at * 64 + j)) → (c : ℕ) → at * 64 ≤ c → c < at * 64 + 64 → P c
each_column P at f c low high = (let e : at * 64 + (c - at * 64) ≡ c = omega arith in subst P e (f (c - at * 64) (omega arith)))

module _ (words : List ℕ) (at from bits : ℕ) (fits : bits < 2 ^ 64) (before : (j : ℕ) → j < 64 → at * 64 + j < from → bit_at bits j ≡ 0) (others : (j : ℕ) → j < 64 → from ≤ at * 64 + j → bit_at bits j ≡ bit_at (get_or words at 0) j) where
  clear_at : (j : ℕ) → j < 64 → bit_at bits j ≡ 0 → from ≤ at * 64 + j → column_bit words (at * 64 + j) ≡ false
  clear_at j h clear late = (let e : bit_at (get_or words at 0) j ≡ 0 = sym (others j h late) ∙ clear in column_at words at j h ∙ rw e refl)

  -- no bit is set up to the end of the word
  pub none_in_word : bits ≡ 0 → ((c : ℕ) → from ≤ c → c < at * 64 → column_bit words c ≡ false) → (c : ℕ) → from ≤ c → c < (at + 1) * 64 → column_bit words c ≡ false
  none_in_word none earlier c late h = elim (cases_lt c (at * 64)) [
    | inl b ↦ earlier c late b
    | inr b ↦ each_column (λ c. from ≤ c → column_bit words c ≡ false) at (λ j k. clear_at j k (rw none (bit_at-zero j))) c b (omega arith) late
  ]

  module _ (some : bits ≢ 0) where
    -- no bit is set before the lowest one
    pub none_before : ((c : ℕ) → from ≤ c → c < at * 64 → column_bit words c ≡ false) → (c : ℕ) → from ≤ c → c < at * 64 + trailing_zeros w64 bits → column_bit words c ≡ false
    none_before earlier c late h = elim (cases_lt c (at * 64)) [
      | inl b ↦ earlier c late b
      | inr b ↦
          let t = bit_at-trailing_zeros w64 bits (omega arith) fits in
          each_column (λ c. from ≤ c → c < at * 64 + trailing_zeros w64 bits → column_bit words c ≡ false) at (λ j k l m. clear_at j k (t.2 j (omega arith)) l) c b (omega (arith, t.0)) late h
    ]

    pub lowest_is_late : from ≤ at * 64 + trailing_zeros w64 bits
    lowest_is_late = (let t = bit_at-trailing_zeros w64 bits (omega arith) fits in elim (cases_lt (at * 64 + trailing_zeros w64 bits) from) [
      | inl b ↦ absurd (let e = before (trailing_zeros w64 bits) t.0 b in omega (arith, e, t.1))
      | inr b ↦ b
    ])

    pub lowest_is_set : column_bit words (at * 64 + trailing_zeros w64 bits) ≡ true
    lowest_is_set = (let t = bit_at-trailing_zeros w64 bits (omega arith) fits in
        let e : bit_at (get_or words at 0) (trailing_zeros w64 bits) ≡ 1 = sym (others (trailing_zeros w64 bits) t.0 lowest_is_late) ∙ t.1 in
        column_at words at (trailing_zeros w64 bits) t.0 ∙ rw e refl)

-- ---- a word without its lowest bit

abbrev pub without_lowest : ℕ → ℕ
without_lowest left = bit_and left (bit_not w64 (1 * 2 ^ trailing_zeros w64 left % 2 ^ 64))

module _ (left : ℕ) (fits : left < 2 ^ 64) (some : left ≢ 0) where
  lowest : (trailing_zeros w64 left < 64) × (bit_at left (trailing_zeros w64 left) ≡ 1) × ((i : ℕ) → i < trailing_zeros w64 left → bit_at left i ≡ 0)
  lowest = bit_at-trailing_zeros w64 left (omega arith) fits

  pub lowest_below : trailing_zeros w64 left < 64
  lowest_below = lowest.0

  pub lowest_was_set : nat_eq (bit_at left (trailing_zeros w64 left)) 1 ≡ true
  lowest_was_set = (let e : bit_at left (trailing_zeros w64 left) ≡ 1 = lowest.1 in rw e refl)

  pub other_stays : (j : ℕ) → j < 64 → j ≢ trailing_zeros w64 left → bit_at (without_lowest left) j ≡ bit_at left j
  other_stays j h n = bit_at_clear_other w64 left (trailing_zeros w64 left) lowest.0 j h n

  pub less_without_lowest : without_lowest left < left
  less_without_lowest =
      let most : without_lowest left ≤ left = and_le_l left (bit_not w64 (1 * 2 ^ trailing_zeros w64 left % 2 ^ 64)) in
      let differ : without_lowest left ≢ left = λ e. (let f : bit_at (without_lowest left) (trailing_zeros w64 left) ≡ 0 = bit_at_clear_same w64 left (trailing_zeros w64 left) lowest.0 in let g = ap (λ w. bit_at w (trailing_zeros w64 left)) e in omega (arith, f, g, lowest.1)) in
      omega arith
