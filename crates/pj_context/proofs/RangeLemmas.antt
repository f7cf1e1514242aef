-- A test of each number of a range.
use Rattle.std.proofs.Common.{◌≡◌, ℕ, zero, suc, ◌+◌, ◌-◌, ◌<◌, ◌≤◌, Bool, true, false, length, arith, refl, ap, ◌∙◌}
use Rattle.std.specs.List.{list_all, range_with_len}
use Rattle.std.proofs.lemmas.List.Folds.{list_all_at}
use Rattle.std.proofs.lemmas.List.FromFn.{length-range_with_len, get_or-range_with_len}

-- each number of the range passes
pub range_passes : (p : ℕ → Bool) (start n : ℕ) → ((k : ℕ) → start ≤ k → k < start + n → p k ≡ true) → list_all p (range_with_len start n) ≡ true
range_passes p start zero each = refl
range_passes p start (suc n) each =
    let here : p start ≡ true = each start (omega arith) (omega arith) in
    rw here (range_passes p (start + 1) n (λ k low high. each k (omega arith) (omega arith)))

-- one number of the range does not
pub range_fails : (p : ℕ → Bool) (start n k : ℕ) → start ≤ k → k < start + n → p k ≡ false → list_all p (range_with_len start n) ≡ false
range_fails p start n k low high fails =
    let at : start + (k - start) ≡ k = omega arith in
    let inside : k - start < length (range_with_len start n) = omega (arith, length-range_with_len start n) in
    list_all_at p (range_with_len start n) (k - start) 0 inside (ap p (get_or-range_with_len start n (k - start) 0 (omega arith) ∙ at) ∙ fails)
