-- The square that a list of words holds, bit by bit.
use Rattle.std.proofs.Common.{◌≡◌, ◌≢◌, ℕ, ◌+◌, ◌*◌, ◌/◌, ◌%◌, ◌<◌, ◌≤◌, ◌⊎◌, max, min, ◌-◌, ◌^◌, Bool, true, false, List, [], map, length, get_or, set, replicate, refl, ◌∙◌, ap, inl, inr, arith}
use Rattle.std.specs.Prelude.{◌||◌, ◌&&◌, not, nat_eq}
use Rattle.std.specs.List.{range_with_len}
use Rattle.std.specs.Int.{bit_at, bit_not, w64}
use Rattle.std.specs.Int.RustNames.{bit_or}
use lib.Bits.{bit_and}
use Rattle.std.proofs.lemmas.Bool.{cases_lt, cases_eq}
use Rattle.std.proofs.lemmas.List.{get_or_past, get_or-replicate, length-replicate, get_or-set_same, get_or-set_other}
use Rattle.std.proofs.lemmas.List.FromFn.{length-map-range_with_len, get_or-map-range_with_len}
use Rattle.std.proofs.lemmas.Nat.{mul-add-lt, div_below, same_from_place, row_fits, mod_below}
use Rattle.std.proofs.lemmas.Nat.Bits.{bit_at_or, bit_at_and, bit_at_not, bit_at-lt, bit_at_set_same, bit_at_set_other, bit_at-zero}
use Rattle.std.proofs.Math.Nat.{mul_comm}
use Rattle.pj_bits.specs.Matrix.{bit}
use Rattle.pj_bits.specs.Words.{word_bit, rows_of}

-- ---- the square and its words

pub length-rows_of : (size width : ℕ) (words : List ℕ) → length (rows_of size width words) ≡ size
unfolding rows_of
length-rows_of size width words = length-map-range_with_len (λ row. map (word_bit words width row) (range_with_len 0 size)) 0 size

pub bit-rows_of : (size width : ℕ) (words : List ℕ) (row column : ℕ) → row < size → column < size → bit (rows_of size width words) row column ≡ word_bit words width row column
unfolding bit rows_of
bit-rows_of size width words row column in_row in_column =
    ap (λ (r : List Bool). get_or r column false)
    (get_or-map-range_with_len (λ r. map (word_bit words width r) (range_with_len 0 size)) 0 size row row [] in_row (omega arith))
    ∙ get_or-map-range_with_len (word_bit words width row) 0 size column column false in_column (omega arith)

pub bit-rows_of-below : (size width : ℕ) (words : List ℕ) (row column : ℕ) → size ≤ row → bit (rows_of size width words) row column ≡ false
unfolding bit rows_of
bit-rows_of-below size width words row column past =
    ap (λ (r : List Bool). get_or r column false)
    (get_or_past (map (λ r. map (word_bit words width r) (range_with_len 0 size)) (range_with_len 0 size)) row []
    (omega (arith, length-map-range_with_len (λ r. map (word_bit words width r) (range_with_len 0 size)) 0 size)))

pub bit-rows_of-right : (size width : ℕ) (words : List ℕ) (row column : ℕ) → row < size → size ≤ column → bit (rows_of size width words) row column ≡ false
unfolding bit rows_of
bit-rows_of-right size width words row column in_row past =
    ap (λ (r : List Bool). get_or r column false)
    (get_or-map-range_with_len (λ r. map (word_bit words width r) (range_with_len 0 size)) 0 size row row [] in_row (omega arith))
    ∙ get_or_past (map (word_bit words width row) (range_with_len 0 size)) column false
    (omega (arith, length-map-range_with_len (word_bit words width row) 0 size))

-- a set bit stands inside the square
pub set_bit_is_inside : (size width : ℕ) (words : List ℕ) (row column : ℕ) → bit (rows_of size width words) row column ≡ true → (row < size) × (column < size)
set_bit_is_inside size width words row column is_set =
    elim (cases_lt row size) [
      | inl in_row ↦ elim (cases_lt column size) [
        | inl in_column ↦ (in_row, in_column)
        | inr past ↦ let e = bit-rows_of-right size width words row column in_row past in absurd (let f : ◌≡◌ {A = Bool} true false = cc in cc)
      ]
      | inr past ↦ let e = bit-rows_of-below size width words row column past in absurd (let f : ◌≡◌ {A = Bool} true false = cc in cc)
    ]

-- ---- the place of a bit

pub word_in_row : (size width column : ℕ) → size ≤ 64 * width → column < size → column / 64 < width
word_in_row size width column covers in_column = div_below column 64 width (omega arith) (omega arith)

pub place_is_there : (size width row column : ℕ) → size ≤ 64 * width → row < size → column < size → row * width + column / 64 < size * width
place_is_there size width row column covers in_row in_column =
    let at = mul-add-lt row width (column / 64) size in_row (word_in_row size width column covers in_column) in
    omega (arith, at, mul_comm size width)

-- a row ends before the next one begins
pub row_before : (width row later : ℕ) → row < later → row * width + width ≤ later * width
row_before width row later h = row_fits row width later width h (omega arith)

-- a row lies within the words
pub row_is_there : (size width row len : ℕ) → row < size → len ≡ size * width → row * width + width ≤ len
row_is_there size width row len in_row whole = omega (arith, row_before width row size in_row)

-- ---- one bit of a joined word

bit_cases : (x : ℕ) → x < 2 → (x ≡ 0) ⊎ (x ≡ 1)
bit_cases x h = elim (cases_eq x 0) [ inl e ↦ inl e | inr other ↦ inr (omega arith) ]

max_of_bits : (x y : ℕ) → x < 2 → y < 2 → nat_eq (max x y) 1 ≡ (nat_eq x 1 || nat_eq y 1)
max_of_bits x y p q =
    elim (bit_cases x p) [
      | inl e ↦ elim (bit_cases y q) [ inl f ↦ rw (e, f) refl | inr f ↦ rw (e, f) refl ]
      | inr e ↦ elim (bit_cases y q) [ inl f ↦ rw (e, f) refl | inr f ↦ rw (e, f) refl ]
    ]

min_of_bits : (x y : ℕ) → x < 2 → y < 2 → nat_eq (min x (1 - y)) 1 ≡ (nat_eq x 1 && not (nat_eq y 1))
min_of_bits x y p q =
    elim (bit_cases x p) [
      | inl e ↦ elim (bit_cases y q) [ inl f ↦ rw (e, f) refl | inr f ↦ rw (e, f) refl ]
      | inr e ↦ elim (bit_cases y q) [ inl f ↦ rw (e, f) refl | inr f ↦ rw (e, f) refl ]
    ]

bit_of_or : (a b k : ℕ) → nat_eq (bit_at (bit_or a b) k) 1 ≡ (nat_eq (bit_at a k) 1 || nat_eq (bit_at b k) 1)
bit_of_or a b k = ap (λ x. nat_eq x 1) (bit_at_or a b k) ∙ max_of_bits (bit_at a k) (bit_at b k) (bit_at-lt a k) (bit_at-lt b k)

bit_of_and_not : (a b k : ℕ) → b < 2 ^ 64 → k < 64 → nat_eq (bit_at (bit_and a (bit_not w64 b)) k) 1 ≡ (nat_eq (bit_at a k) 1 && not (nat_eq (bit_at b k) 1))
bit_of_and_not a b k fits below =
    ap (λ x. nat_eq x 1) (bit_at_and a (bit_not w64 b) k ∙ ap (λ y. min (bit_at a k) y) (bit_at_not w64 b k fits below))
    ∙ min_of_bits (bit_at a k) (bit_at b k) (bit_at-lt a k) (bit_at-lt b k)

-- ---- a whole row is

module _ (size width : ℕ) (words after : List ℕ) (into : ℕ) (covers : size ≤ 64 * width) where
  pub or_row_bit : (from : ℕ) → into < size → from < size → ((k : ℕ) → k < width → get_or after (into * width + k) 0 ≡ bit_or (get_or words (into * width + k) 0) (get_or words (from * width + k) 0)) → (c : ℕ) → bit (rows_of size width after) into c ≡ (bit (rows_of size width words) into c || bit (rows_of size width words) from c)
  unfolding word_bit
  or_row_bit from into_in from_in joined c =
      elim (cases_lt c size) [
        | inl c_in ↦
            let e : nat_eq (bit_at (get_or after (into * width + c / 64) 0) (c % 64)) 1 ≡ (nat_eq (bit_at (get_or words (into * width + c / 64) 0) (c % 64)) 1 || nat_eq (bit_at (get_or words (from * width + c / 64) 0) (c % 64)) 1) =
            ap (λ x. nat_eq (bit_at x (c % 64)) 1) (joined (c / 64) (word_in_row size width c covers c_in)) ∙ bit_of_or (get_or words (into * width + c / 64) 0) (get_or words (from * width + c / 64) 0) (c % 64) in
            rw (bit-rows_of size width after into c into_in c_in, bit-rows_of size width words into c into_in c_in, bit-rows_of size width words from c from_in c_in) e
        | inr past ↦ rw (bit-rows_of-right size width after into c into_in past, bit-rows_of-right size width words into c into_in past, bit-rows_of-right size width words from c from_in past) refl
      ]

  pub and_not_row_bit : (from : ℕ) → into < size → from < size → ((k : ℕ) → get_or words k 0 < 2 ^ 64) → ((k : ℕ) → k < width → get_or after (into * width + k) 0 ≡ bit_and (get_or words (into * width + k) 0) (bit_not w64 (get_or words (from * width + k) 0))) → (c : ℕ) → bit (rows_of size width after) into c ≡ (bit (rows_of size width words) into c && not (bit (rows_of size width words) from c))
  unfolding word_bit
  and_not_row_bit from into_in from_in fit taken c =
      elim (cases_lt c size) [
        | inl c_in ↦
            let e : nat_eq (bit_at (get_or after (into * width + c / 64) 0) (c % 64)) 1 ≡ (nat_eq (bit_at (get_or words (into * width + c / 64) 0) (c % 64)) 1 && not (nat_eq (bit_at (get_or words (from * width + c / 64) 0) (c % 64)) 1)) =
            ap (λ x. nat_eq (bit_at x (c % 64)) 1) (taken (c / 64) (word_in_row size width c covers c_in)) ∙ bit_of_and_not (get_or words (into * width + c / 64) 0) (get_or words (from * width + c / 64) 0) (c % 64) (fit (from * width + c / 64)) (mod_below c 64 (omega arith)) in
            rw (bit-rows_of size width after into c into_in c_in, bit-rows_of size width words into c into_in c_in, bit-rows_of size width words from c from_in c_in) e
        | inr past ↦ rw (bit-rows_of-right size width after into c into_in past, bit-rows_of-right size width words into c into_in past) refl
      ]

  pub other_row_bit : ((k : ℕ) → k < into * width → get_or after k 0 ≡ get_or words k 0) → ((k : ℕ) → into * width + width ≤ k → get_or after k 0 ≡ get_or words k 0) → (r c : ℕ) → r ≢ into → bit (rows_of size width after) r c ≡ bit (rows_of size width words) r c
  unfolding word_bit
  other_row_bit below above r c other =
      elim (cases_lt r size) [
        | inl r_in ↦ elim (cases_lt c size) [
          | inl c_in ↦
              let in_row : c / 64 < width = word_in_row size width c covers c_in in
              let same : get_or after (r * width + c / 64) 0 ≡ get_or words (r * width + c / 64) 0 =
              elim (cases_lt r into) [
                | inl before ↦ below (r * width + c / 64) (let step = row_before width r into before in omega (arith, step, in_row))
                | inr later ↦ above (r * width + c / 64) (let h : into < r = omega arith in let step = row_before width into r h in omega (arith, step, in_row))
              ] in
              rw (bit-rows_of size width after r c r_in c_in, bit-rows_of size width words r c r_in c_in) (ap (λ x. nat_eq (bit_at x (c % 64)) 1) same)
          | inr past ↦ rw (bit-rows_of-right size width after r c r_in past, bit-rows_of-right size width words r c r_in past) refl
        ]
        | inr past ↦ rw (bit-rows_of-below size width after r c past, bit-rows_of-below size width words r c past) refl
      ]

-- ---- one bit is

-- the words after a bit of one of them was set
abbrev pub with_bit : List ℕ → ℕ → ℕ → ℕ → List ℕ
with_bit words at word k = set words at (bit_or word (1 * 2 ^ k % 2 ^ 64))

module _ (size width : ℕ) (words : List ℕ) (row column word : ℕ) (covers : size ≤ 64 * width) (whole : length words ≡ size * width) (row_in : row < size) (column_in : column < size) (was : word ≡ get_or words (row * width + column / 64) 0) where
  pub set_bit_here : bit (rows_of size width (with_bit words (row * width + column / 64) word (column % 64))) row column ≡ true
  unfolding word_bit
  set_bit_here =
      let at : get_or (with_bit words (row * width + column / 64) word (column % 64)) (row * width + column / 64) 0 ≡ bit_or word (1 * 2 ^ (column % 64) % 2 ^ 64) =
      get_or-set_same words (row * width + column / 64) (bit_or word (1 * 2 ^ (column % 64) % 2 ^ 64)) 0 (let h = place_is_there size width row column covers row_in column_in in omega (arith, h)) in
      rw (bit-rows_of size width (with_bit words (row * width + column / 64) word (column % 64)) row column row_in column_in, at, bit_at_set_same w64 word (column % 64) (mod_below column 64 (omega arith))) refl

  pub set_bit_others : (r c : ℕ) → (r ≢ row) ⊎ (c ≢ column) → bit (rows_of size width (with_bit words (row * width + column / 64) word (column % 64))) r c ≡ bit (rows_of size width words) r c
  unfolding word_bit
  set_bit_others r c other =
      elim (cases_lt r size) [
        | inl r_in ↦ elim (cases_lt c size) [
          | inl c_in ↦ elim (cases_eq (r * width + c / 64) (row * width + column / 64)) [
            | inl one_word ↦
                let same = same_from_place r (c / 64) row (column / 64) width (word_in_row size width c covers c_in) (word_in_row size width column covers column_in) one_word in
                let other_bit : c % 64 ≢ column % 64 = λ e. elim other [ inl f ↦ f same.0 | inr f ↦ f (omega (arith, e, same.1)) ] in
                let at : get_or (with_bit words (row * width + column / 64) word (column % 64)) (r * width + c / 64) 0 ≡ bit_or word (1 * 2 ^ (column % 64) % 2 ^ 64) =
                rw one_word (get_or-set_same words (row * width + column / 64) (bit_or word (1 * 2 ^ (column % 64) % 2 ^ 64)) 0 (let h = place_is_there size width row column covers row_in column_in in omega (arith, h))) in
                let old : word ≡ get_or words (r * width + c / 64) 0 = rw one_word was in
                rw (bit-rows_of size width (with_bit words (row * width + column / 64) word (column % 64)) r c r_in c_in, bit-rows_of size width words r c r_in c_in)
                (ap (λ x. nat_eq x 1) (ap (λ w. bit_at w (c % 64)) at ∙ bit_at_set_other w64 word (column % 64) (mod_below column 64 (omega arith)) (c % 64) other_bit ∙ ap (λ w. bit_at w (c % 64)) old))
            | inr another ↦
                rw (bit-rows_of size width (with_bit words (row * width + column / 64) word (column % 64)) r c r_in c_in, bit-rows_of size width words r c r_in c_in)
                (ap (λ w. nat_eq (bit_at w (c % 64)) 1) (get_or-set_other words (row * width + column / 64) (r * width + c / 64) (bit_or word (1 * 2 ^ (column % 64) % 2 ^ 64)) 0 another))
          ]
          | inr past ↦ rw (bit-rows_of-right size width (with_bit words (row * width + column / 64) word (column % 64)) r c r_in past, bit-rows_of-right size width words r c r_in past) refl
        ]
        | inr past ↦ rw (bit-rows_of-below size width (with_bit words (row * width + column / 64) word (column % 64)) r c past, bit-rows_of-below size width words r c past) refl
      ]

-- ---- every bit is clear

get_or-zeros : (n k : ℕ) → get_or {A = ℕ} (replicate n 0) k 0 ≡ 0
get_or-zeros n k =
    elim (cases_lt k n) [
      | inl within ↦ get_or-replicate n k 0 0 within
      | inr past ↦ get_or_past {X = ℕ} (replicate n 0) k 0 (omega (arith, length-replicate {A = ℕ} n 0))
    ]

pub zeros_everywhere : (n : ℕ) (words : List ℕ) → words ≡ replicate n 0 → (k : ℕ) → get_or words k 0 ≡ 0
zeros_everywhere n words e k = ap (λ ws. get_or ws k 0) e ∙ get_or-zeros n k

pub clear_bit : (size width : ℕ) (words : List ℕ) → ((k : ℕ) → get_or words k 0 ≡ 0) → (r c : ℕ) → bit (rows_of size width words) r c ≡ false
unfolding word_bit
clear_bit size width words zero_words r c =
    elim (cases_lt r size) [
      | inl r_in ↦ elim (cases_lt c size) [
        | inl c_in ↦ rw (bit-rows_of size width words r c r_in c_in, zero_words (r * width + c / 64), bit_at-zero (c % 64)) refl
        | inr past ↦ bit-rows_of-right size width words r c r_in past
      ]
      | inr past ↦ bit-rows_of-below size width words r c past
    ]
