-- A loop that joins to each word of one range the word of another.
use Rattle.std.proofs.Common.{◌≡◌, ℕ, ◌+◌, ◌<◌, ◌≤◌, ◌⊎◌, List, length, get_or, set, ◌∙◌, inl, inr, arith}
use Rattle.std.proofs.lemmas.Bool.{cases_lt}
use Rattle.std.proofs.lemmas.List.{get_or-set_same, get_or-set_other}

-- the first `k` words from `into` on are joined with those from `from` on, and all others are as they were
pub record Joins (op : ℕ → ℕ → ℕ) (start words : List ℕ) (into from k : ℕ) : Type 0 where
  pub done : (j : ℕ) → j < k → get_or words (into + j) 0 ≡ op (get_or start (into + j) 0) (get_or start (from + j) 0)
  pub others : (j : ℕ) → (j < into) ⊎ (into + k ≤ j) → get_or words j 0 ≡ get_or start j 0

-- the range that is read is the range that is written, or they have no word in common
abbrev pub Apart : ℕ → ℕ → ℕ → Type 0
Apart into from width = (into ≡ from) ⊎ (into + width ≤ from) ⊎ (from + width ≤ into)

read_is_old : (op : ℕ → ℕ → ℕ) (start words : List ℕ) (into from width k : ℕ) → k < width → Apart into from width → Joins op start words into from k → get_or words (from + k) 0 ≡ get_or start (from + k) 0
read_is_old op start words into from width k below apart so_far =
    elim apart [
      | inl same ↦ so_far.others (from + k) (inr (omega arith))
      | inr other ↦ elim other [
        | inl after ↦ so_far.others (from + k) (inr (omega arith))
        | inr before ↦ so_far.others (from + k) (inl (omega arith))
      ]
    ]

pub joins_more : (op : ℕ → ℕ → ℕ) (start words : List ℕ) (into from width k : ℕ) → k < width → into + width ≤ length words → Apart into from width → Joins op start words into from k → Joins op start (set words (into + k) (op (get_or words (into + k) 0) (get_or words (from + k) 0))) into from (k + 1)
joins_more op start words into from width k below fits apart so_far =
    let here : get_or words (into + k) 0 ≡ get_or start (into + k) 0 = so_far.others (into + k) (inr (omega arith)) in
    let there : get_or words (from + k) 0 ≡ get_or start (from + k) 0 = read_is_old op start words into from width k below apart so_far in
    let joined : ℕ = op (get_or words (into + k) 0) (get_or words (from + k) 0) in
    record {
      done = λ j h. elim (cases_lt j k) [
        | inl before ↦ get_or-set_other words (into + k) (into + j) joined 0 (omega arith) ∙ so_far.done j before
        | inr last ↦
            let at : j ≡ k = omega arith in
            rw at (get_or-set_same words (into + k) joined 0 (omega arith) ∙ (let e : op (get_or words (into + k) 0) (get_or words (from + k) 0) ≡ op (get_or start (into + k) 0) (get_or start (from + k) 0) = cc in e))
      ];
      others = λ j h. elim h [
        | inl before ↦ get_or-set_other words (into + k) j joined 0 (omega arith) ∙ so_far.others j (inl before)
        | inr after ↦ get_or-set_other words (into + k) j joined 0 (omega arith) ∙ so_far.others j (inr (omega arith))
      ];
    }
