-- A matrix that is turned round, block by block: a block is 64 rows of the new matrix.
use Rattle.std.proofs.Common.{◌≡◌, ◌≢◌, ℕ, ◌+◌, ◌-◌, ◌*◌, ◌<◌, ◌≤◌, ◌⊎◌, Bool, false, List, get_or, nat_eq, refl, sym, ◌∙◌, inl, inr, arith}
use Rattle.std.specs.Prelude.{◌||◌}
use Rattle.std.specs.Int.{bit_at}
use Rattle.std.proofs.lemmas.Bool.{cases_lt, cases_eq}
use Rattle.std.proofs.lemmas.Nat.{div-mul-add, mod-mul-add}
use Rattle.pj_bits.specs.Matrix.{bit, size as size_of}
use Rattle.pj_bits.specs.Words.{word_bit, rows_of}
use Rattle.pj_bits.proofs.Squares.{bit-rows_of, bit-rows_of-below, bit-rows_of-right}

-- the blocks before this one are done, and of this one the first columns; the rest is clear
pub record Turned (rows turned : List (List Bool)) (size block column : ℕ) : Type 0 where
  pub same_size : size_of turned ≡ size
  pub done : (r k : ℕ) → r < size → k < size → (r < block * 64) ⊎ ((r < block * 64 + 64) × (k < column)) → bit turned r k ≡ bit rows k r
  pub clear : (r k : ℕ) → (block * 64 + 64 ≤ r) ⊎ ((block * 64 ≤ r) × (column ≤ k)) → bit turned r k ≡ false
  pub outside : (r k : ℕ) → (size ≤ r) ⊎ (size ≤ k) → bit turned r k ≡ false

-- the bits of a word of the old matrix
pub cell : (size width : ℕ) (words : List ℕ) (row block j : ℕ) → row < size → block * 64 + j < size → j < 64 →
    bit (rows_of size width words) row (block * 64 + j) ≡ nat_eq (bit_at (get_or words (row * width + block) 0) j) 1
unfolding word_bit
cell size width words row block j in_row inside below = bit-rows_of size width words row (block * 64 + j) in_row inside ∙ rw (div-mul-add block 64 j below, mod-mul-add block 64 j below) refl

-- one column of a block more
module _ (size width : ℕ) (words : List ℕ) (old new : List (List Bool)) (block column : ℕ) (in_block : block * 64 < size) (in_column : column < size) (t : Turned (rows_of size width words) old size block column) where
  pub column_turned : (word : ℕ) → word ≡ get_or words (column * width + block) 0 → size_of new ≡ size_of old →
      ((j : ℕ) → j < 64 → block * 64 + j < size_of old → bit new (block * 64 + j) column ≡ (bit old (block * 64 + j) column || nat_eq (bit_at word j) 1)) →
      ((r k : ℕ) → (k ≢ column) ⊎ (r < block * 64) ⊎ (block * 64 + 64 ≤ r) ⊎ (size_of old ≤ r) → bit new r k ≡ bit old r k) →
      Turned (rows_of size width words) new size block (column + 1)
  column_turned word is same here others = record {
    same_size = same ∙ t.same_size;
    done = λ r k a b o. elim (cases_eq k column) [
      | inl e ↦ elim (cases_lt r (block * 64)) [
        | inl before ↦ others r k (inr (inl before)) ∙ t.done r k a b (inl before)
        | inr late ↦
            let near : r < block * 64 + 64 = elim o [ inl h ↦ omega arith | inr h ↦ h.0 ] in
            let at : block * 64 + (r - block * 64) ≡ r = omega arith in
            let was : bit old r column ≡ false = t.clear r column (inr (late, omega arith)) in
            let now : bit new r column ≡ (bit old r column || nat_eq (bit_at word (r - block * 64)) 1) =
            rw at at (here (r - block * 64) (omega arith) (omega (arith, t.same_size))) in
            let then : bit (rows_of size width words) column r ≡ nat_eq (bit_at (get_or words (column * width + block) 0) (r - block * 64)) 1 =
            rw at at (cell size width words column block (r - block * 64) in_column (omega arith) (omega arith)) in
            rw (e, now, was, then, is) refl
      ]
      | inr n ↦ others r k (inl n) ∙ t.done r k a b (elim o [ inl h ↦ inl h | inr h ↦ inr (h.0, (let below = h.1 in omega arith)) ])
    ];
    clear = λ r k o. elim o [
      | inl far ↦ others r k (inr (inr (inl far))) ∙ t.clear r k (inl far)
      | inr h ↦ (let past = h.1 in others r k (inl (λ e. omega arith)) ∙ t.clear r k (inr (h.0, omega arith)))
    ];
    outside = λ r k o. elim o [
      | inl below ↦ others r k (inr (inr (inr (omega (arith, t.same_size))))) ∙ t.outside r k (inl below)
      | inr right ↦ others r k (inl (λ e. omega arith)) ∙ t.outside r k (inr right)
    ];
  }

-- all is turned
pub all_turned : (size width : ℕ) (words : List ℕ) (turned : List (List Bool)) (block : ℕ) → size ≤ block * 64 → Turned (rows_of size width words) turned size block 0 →
    (r k : ℕ) → bit turned r k ≡ bit (rows_of size width words) k r
all_turned size width words turned block all t r k = elim (cases_lt r size) [
  | inl r_in ↦ elim (cases_lt k size) [
    | inl k_in ↦ t.done r k r_in k_in (inl (omega arith))
    | inr below ↦ t.outside r k (inr below) ∙ sym (bit-rows_of-below size width words k r below)
  ]
  | inr past ↦ t.outside r k (inl past) ∙ sym (elim (cases_lt k size) [ inl k_in ↦ bit-rows_of-right size width words k r k_in past | inr below ↦ bit-rows_of-below size width words k r below ])
]
