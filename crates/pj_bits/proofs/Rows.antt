-- The row that a list of words holds, bit by bit.
use Rattle.std.proofs.Common.{◌≡◌, ◌≢◌, ℕ, ◌+◌, ◌*◌, ◌/◌, ◌%◌, ◌<◌, ◌≤◌, max, min, ◌^◌, Bool, true, false, List, map, length, get_or, set, take, drop, get_or-take, get_or-drop, refl, sym, ◌∙◌, ap, inl, inr, arith}
use Rattle.std.specs.Prelude.{◌||◌, ◌&&◌, ◌⊎◌, not, nat_eq, Option, Some, None, MatchOption}
use Rattle.std.specs.List.{range_with_len}
use Rattle.std.specs.Int.{bit_at, bit_not, div_ceil, w64}
use Rattle.std.specs.Int.RustNames.{bit_or, bit_xor}
use lib.Bits.{bit_and}
use Rattle.std.proofs.lemmas.Bool.{cases_lt, cases_eq}
use Rattle.std.proofs.lemmas.List.{get_or_past, get_or-set_same, get_or-set_other}
use Rattle.std.proofs.lemmas.List.FromFn.{length-map-range_with_len, get_or-map-range_with_len}
use Rattle.std.proofs.lemmas.Nat.{mod_below}
use Rattle.std.proofs.lemmas.Nat.Bits.{bit_at_or, bit_at_and, bit_at_xor, bit_at_not, bit_at-lt, bit_at-zero}
use Rattle.pj_bits.specs.Matrix.{bit}
use Rattle.pj_bits.specs.Row.{differ, has}
use Rattle.pj_bits.specs.Words.{word_bit, rows_of, column_bit, row_of}
use Rattle.pj_bits.proofs.Squares.{length-rows_of, bit-rows_of, bit-rows_of-right}

-- ---- the row and its words

pub length-row_of : (size : ℕ) (words : List ℕ) → length (row_of size words) ≡ size
unfolding row_of
length-row_of size words = length-map-range_with_len (column_bit words) 0 size

pub has-row_of : (size : ℕ) (words : List ℕ) (c : ℕ) → c < size → has (row_of size words) c ≡ column_bit words c
unfolding has row_of
has-row_of size words c inside = get_or-map-range_with_len (column_bit words) 0 size c c false inside (omega arith)

pub has-row_of-past : (size : ℕ) (words : List ℕ) (c : ℕ) → size ≤ c → has (row_of size words) c ≡ false
unfolding has row_of
has-row_of-past size words c past = get_or_past (map (column_bit words) (range_with_len 0 size)) c false (omega (arith, length-map-range_with_len (column_bit words) 0 size))

pub set_bit_inside : (size : ℕ) (words : List ℕ) (c : ℕ) → has (row_of size words) c ≡ true → c < size
set_bit_inside size words c is_set = elim (cases_lt c size) [
  | inl inside ↦ inside
  | inr past ↦ (let e = has-row_of-past size words c past in absurd (let f : ◌≡◌ {A = Bool} true false = cc in cc))
]

-- what a view says of the fields behind it
pub size_seen : (size : ℕ) (words : List ℕ) (row : List Bool) → row_of size words ≡ row → length row ≡ size
size_seen size words row e = sym (ap length e) ∙ length-row_of size words

pub same_lengths : (size size' len len' : ℕ) → len ≡ div_ceil size 64 → len' ≡ div_ceil size' 64 → size' ≡ size → len' ≡ len
same_lengths size size' len len' long long' e = long' ∙ ap (λ n. div_ceil n 64) e ∙ sym long

pub word_there : (size len c : ℕ) → len ≡ div_ceil size 64 → c < size → c / 64 < len
word_there size len c long inside = omega arith

-- ---- one bit of a joined word

bit_cases : (x : ℕ) → x < 2 → (x ≡ 0) ⊎ (x ≡ 1)
bit_cases x h = elim (cases_eq x 0) [ inl e ↦ inl e | inr other ↦ inr (omega arith) ]

-- what holds of the four pairs of bits
four : (P : ℕ → ℕ → Type 0) → P 0 0 → P 0 1 → P 1 0 → P 1 1 → (x y : ℕ) → x < 2 → y < 2 → P x y
four P a b c d x y p q = elim (bit_cases x p) [
  | inl e ↦ elim (bit_cases y q) [ inl f ↦ rw (e, f) a | inr f ↦ rw (e, f) b ]
  | inr e ↦ elim (bit_cases y q) [ inl f ↦ rw (e, f) c | inr f ↦ rw (e, f) d ]
]

pub bit_or_is : (a b k : ℕ) → nat_eq (bit_at (bit_or a b) k) 1 ≡ (nat_eq (bit_at a k) 1 || nat_eq (bit_at b k) 1)
bit_or_is a b k = ap (λ x. nat_eq x 1) (bit_at_or a b k) ∙ four (λ x y. nat_eq (max x y) 1 ≡ (nat_eq x 1 || nat_eq y 1)) refl refl refl refl (bit_at a k) (bit_at b k) (bit_at-lt a k) (bit_at-lt b k)

pub bit_and_is : (a b k : ℕ) → nat_eq (bit_at (bit_and a b) k) 1 ≡ (nat_eq (bit_at a k) 1 && nat_eq (bit_at b k) 1)
bit_and_is a b k = ap (λ x. nat_eq x 1) (bit_at_and a b k) ∙ four (λ x y. nat_eq (min x y) 1 ≡ (nat_eq x 1 && nat_eq y 1)) refl refl refl refl (bit_at a k) (bit_at b k) (bit_at-lt a k) (bit_at-lt b k)

pub bit_xor_is : (a b k : ℕ) → nat_eq (bit_at (bit_xor a b) k) 1 ≡ differ (nat_eq (bit_at a k) 1) (nat_eq (bit_at b k) 1)
bit_xor_is a b k = ap (λ x. nat_eq x 1) (bit_at_xor a b k) ∙ four (λ x y. nat_eq ((x + y) % 2) 1 ≡ differ (nat_eq x 1) (nat_eq y 1)) refl refl refl refl (bit_at a k) (bit_at b k) (bit_at-lt a k) (bit_at-lt b k)

pub bit_not_is : (a k : ℕ) → a < 2 ^ 64 → k < 64 → nat_eq (bit_at (bit_not w64 a) k) 1 ≡ not (nat_eq (bit_at a k) 1)
bit_not_is a k fits below = ap (λ x. nat_eq x 1) (bit_at_not w64 a k fits below) ∙ elim (bit_cases (bit_at a k) (bit_at-lt a k)) [ inl e ↦ rw e refl | inr e ↦ rw e refl ]

-- ---- a whole row is

-- each bit of the words r is made of those of a, b and d
abbrev pub AreJoined : (Bool → Bool → Bool → Bool) → ℕ → List ℕ → List ℕ → List ℕ → List ℕ → Type 0
AreJoined f len a b d r = (k j : ℕ) → k < len → j < 64 →
    nat_eq (bit_at (get_or r k 0) j) 1 ≡ f (nat_eq (bit_at (get_or a k 0) j) 1) (nat_eq (bit_at (get_or b k 0) j) 1) (nat_eq (bit_at (get_or d k 0) j) 1)

pub row_by : (f : Bool → Bool → Bool → Bool) → f false false false ≡ false → (size len : ℕ) → len ≡ div_ceil size 64 → (a b d r : List ℕ) → AreJoined f len a b d r →
    (c : ℕ) → has (row_of size r) c ≡ f (has (row_of size a) c) (has (row_of size b) c) (has (row_of size d) c)
unfolding column_bit
row_by f clear size len long a b d r joined c = elim (cases_lt c size) [
  | inl inside ↦ rw (has-row_of size r c inside, has-row_of size a c inside, has-row_of size b c inside, has-row_of size d c inside) (joined (c / 64) (c % 64) (word_there size len c long inside) (mod_below c 64 (omega arith)))
  | inr past ↦ rw (has-row_of-past size r c past, has-row_of-past size a c past, has-row_of-past size b c past, has-row_of-past size d c past) (sym clear)
]

-- ---- one bit is

-- the words after a bit of one of them was set, or cleared
abbrev pub with_set : List ℕ → ℕ → ℕ → ℕ → List ℕ
with_set words at word k = set words at (bit_or word (1 * 2 ^ k % 2 ^ 64))

abbrev pub with_clear : List ℕ → ℕ → ℕ → ℕ → List ℕ
with_clear words at word k = set words at (bit_and word (bit_not w64 (1 * 2 ^ k % 2 ^ 64)))

module _ (size : ℕ) (words : List ℕ) (column : ℕ) (long : length words ≡ div_ceil size 64) (inside : column < size) where
  -- a bit that the new word of the column has is set there
  pub new_bit : (value : ℕ) → has (row_of size (set words (column / 64) value)) column ≡ nat_eq (bit_at value (column % 64)) 1
  unfolding column_bit
  new_bit value =
      let there : column / 64 < length words = word_there size (length words) column long inside in
      rw (has-row_of size (set words (column / 64) value) column inside, get_or-set_same words (column / 64) value 0 there) refl

  -- the other bits are as they were, where they are so in the word
  pub other_bits : (word value : ℕ) → word ≡ get_or words (column / 64) 0 → ((k : ℕ) → k < 64 → k ≢ column % 64 → bit_at value k ≡ bit_at word k) →
      (c : ℕ) → c ≢ column → has (row_of size (set words (column / 64) value)) c ≡ has (row_of size words) c
  unfolding column_bit
  other_bits word value was same c other = elim (cases_lt c size) [
    | inl c_in ↦ elim (cases_eq (c / 64) (column / 64)) [
      | inl one_word ↦
          let there : column / 64 < length words = word_there size (length words) column long inside in
          let apart : c % 64 ≢ column % 64 = λ e. other (omega arith) in
          let now : get_or (set words (column / 64) value) (c / 64) 0 ≡ value = rw one_word (get_or-set_same words (column / 64) value 0 there) in
          let then : word ≡ get_or words (c / 64) 0 = rw one_word was in
          rw (has-row_of size (set words (column / 64) value) c c_in, has-row_of size words c c_in)
          (ap (λ x. nat_eq x 1) (ap (λ w. bit_at w (c % 64)) now ∙ same (c % 64) (mod_below c 64 (omega arith)) apart ∙ ap (λ w. bit_at w (c % 64)) then))
      | inr another ↦ rw (has-row_of size (set words (column / 64) value) c c_in, has-row_of size words c c_in) (ap (λ w. nat_eq (bit_at w (c % 64)) 1) (get_or-set_other words (column / 64) (c / 64) value 0 another))
    ]
    | inr past ↦ rw (has-row_of-past size (set words (column / 64) value) c past, has-row_of-past size words c past) refl
  ]

-- ---- every bit is clear

pub clear_row : (size : ℕ) (words : List ℕ) → ((k : ℕ) → get_or words k 0 ≡ 0) → (c : ℕ) → has (row_of size words) c ≡ false
unfolding column_bit
clear_row size words zero_words c = elim (cases_lt c size) [
  | inl inside ↦ rw (has-row_of size words c inside, zero_words (c / 64), bit_at-zero (c % 64)) refl
  | inr past ↦ has-row_of-past size words c past
]

-- ---- the next bit

-- what is found among the words is found in the row
pub next_seen : (size from : ℕ) (words : List ℕ) (row : List Bool) → row_of size words ≡ row → (found : Option ℕ) →
    MatchOption found ((c : ℕ) → from ≤ c → c < size → column_bit words c ≡ false)
    (λ column. (from ≤ column) × (column < size) × (column_bit words column ≡ true) × ((c : ℕ) → from ≤ c → c < column → column_bit words c ≡ false)) →
    MatchOption found ((c : ℕ) → from ≤ c → has row c ≡ false)
    (λ column. (from ≤ column) × (column < length row) × (has row column ≡ true) × ((c : ℕ) → from ≤ c → c < column → has row c ≡ false))
next_seen size from words row e None none = λ c late. rw (← e) (elim (cases_lt c size) [
  | inl inside ↦ has-row_of size words c inside ∙ none c late inside
  | inr past ↦ has-row_of-past size words c past
])
next_seen size from words row e (Some column) some = (
  some.0,
  omega (arith, size_seen size words row e, some.1),
  rw (← e) (has-row_of size words column some.1 ∙ some.2),
  (λ c late before. rw (← e) (has-row_of size words c (omega (arith, some.1)) ∙ some.3 c late before)),
)

-- ---- a row of a square

pub square_seen : (size width : ℕ) (words : List ℕ) (rows : List (List Bool)) → rows_of size width words ≡ rows → length rows ≡ size
square_seen size width words rows e = sym (ap length e) ∙ length-rows_of size width words

-- the words of a row, cut out of those of the square
pub cut_row : (size width : ℕ) (words : List ℕ) (row : ℕ) → size ≤ 64 * width → row < size → (c : ℕ) →
    has (row_of size (take (div_ceil size 64) (drop (row * width) words))) c ≡ bit (rows_of size width words) row c
unfolding column_bit word_bit
cut_row size width words row covers in_row c = elim (cases_lt c size) [
  | inl inside ↦
      let there : c / 64 < div_ceil size 64 = omega arith in
      let e : get_or (take (div_ceil size 64) (drop (row * width) words)) (c / 64) 0 ≡ get_or words (row * width + c / 64) 0 = get_or-take (div_ceil size 64) (drop (row * width) words) (c / 64) 0 there ∙ get_or-drop (row * width) words (c / 64) 0 in
      rw (has-row_of size (take (div_ceil size 64) (drop (row * width) words)) c inside, bit-rows_of size width words row c in_row inside) (ap (λ w. nat_eq (bit_at w (c % 64)) 1) e)
  | inr past ↦ rw (has-row_of-past size (take (div_ceil size 64) (drop (row * width) words)) c past, bit-rows_of-right size width words row c in_row past) refl
]
