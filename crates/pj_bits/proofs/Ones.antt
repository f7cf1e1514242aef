-- The numbers below a bound that pass a test, found one after the other.
use Rattle.std.proofs.Common.{◌≡◌, ℕ, zero, suc, ◌+◌, ◌-◌, ◌<◌, ◌≤◌, Bool, true, false, cond, [], ◌∷◌, ◌++◌, refl, ◌∙◌, ap, subst, arith, append-nil}
use Rattle.std.specs.Prelude.{filter}
use Rattle.std.specs.List.{range_with_len}
use Rattle.std.proofs.lemmas.List.Elements.{filter-append}

pub range_more : (a n : ℕ) → range_with_len a (suc n) ≡ range_with_len a n ++ (a + n) ∷ []
range_more a zero = (let e : a + 0 ≡ a = omega arith in rw e refl)
range_more a (suc n) = (let e : (a + 1) + n ≡ a + suc n = omega arith in ap (λ xs. a ∷ xs) (range_more (a + 1) n ∙ ap (λ k. range_with_len (a + 1) n ++ k ∷ []) e))

pub filter_more : (p : ℕ → Bool) (n : ℕ) → filter p (range_with_len 0 (suc n)) ≡ filter p (range_with_len 0 n) ++ cond (p n) (n ∷ []) []
filter_more p n = ap (filter p) (range_more 0 n) ∙ filter-append p (range_with_len 0 n) ((0 + n) ∷ []) ∙ (let e : 0 + n ≡ n = omega arith in rw e refl)

-- those that do not pass are passed over
pub passed_over : (p : ℕ → Bool) (n k : ℕ) → ((c : ℕ) → n ≤ c → c < n + k → p c ≡ false) → filter p (range_with_len 0 (n + k)) ≡ filter p (range_with_len 0 n)
passed_over p n zero none = (let e : n + 0 ≡ n = omega arith in rw e refl)
passed_over p n (suc k) none =
    let e : n + suc k ≡ suc (n + k) = omega arith in
    let last : p (n + k) ≡ false = none (n + k) (omega arith) (omega arith) in
    rw e (filter_more p (n + k) ∙ rw last (append-nil (filter p (range_with_len 0 (n + k))) ∙ passed_over p n k (λ c a b. none c a (omega arith))))

pub none_after : (p : ℕ → Bool) (n m : ℕ) → n ≤ m → ((c : ℕ) → n ≤ c → c < m → p c ≡ false) → filter p (range_with_len 0 m) ≡ filter p (range_with_len 0 n)
none_after p n m below none = (let e : n + (m - n) ≡ m = omega arith in subst (λ k. filter p (range_with_len 0 k) ≡ filter p (range_with_len 0 n)) e (passed_over p n (m - n) (λ c a b. none c a (omega arith))))

pub next_found : (p : ℕ → Bool) (n c : ℕ) → n ≤ c → p c ≡ true → ((d : ℕ) → n ≤ d → d < c → p d ≡ false) → filter p (range_with_len 0 (c + 1)) ≡ filter p (range_with_len 0 n) ++ c ∷ []
next_found p n c below here none = (let e : c + 1 ≡ suc c = omega arith in rw e (filter_more p c ∙ rw here (ap (λ xs. xs ++ c ∷ []) (none_after p n c below none))))
