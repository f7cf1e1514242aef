-- The bits of a row that are set, their list, and how many are clear.
use Rattle.std.proofs.Common.{◌≡◌, ◌≢◌, ℕ, zero, suc, ◌+◌, ◌<◌, ◌≤◌, Bool, true, false, cond, List, [], ◌∷◌, get_or, refl, sym, ◌∙◌, subst, inl, inr, arith}
use Rattle.std.specs.Prelude.{Contains, filter}
use Rattle.std.specs.Ordering.{nat_cmp}
use Rattle.std.specs.List.{range_with_len}
use Rattle.std.specs.List.Sorted.{IsStrictlySortedBy}
use Rattle.std.proofs.lemmas.Bool.{cases_lt, cases_eq, cond_both}
use Rattle.std.proofs.lemmas.List.{get_or_past}
use Rattle.std.proofs.lemmas.List.Elements.{All-contains, filter_passes}
use Rattle.std.proofs.lemmas.List.FromFn.{length-range_with_len, get_or-range_with_len}
use Rattle.std.proofs.lemmas.List.Kept.{IsStrictlySortedBy-filter}
use Rattle.pj_bits.specs.Row.{has, size as columns}
use Rattle.pj_change.proofs.Members.{uncons, first_member, later_member, no_member, same_member}
use Rattle.pj_layout.proofs.Predecessors.{range_sorted}

pub set_inside : (row : List Bool) (c : ℕ) → has row c ≡ true → c < columns row
unfolding has
set_inside row c is_set = elim (cases_lt c (columns row)) [
  | inl inside ↦ inside
  | inr past ↦ absurd (let e : get_or row c false ≡ false = get_or_past row c false past in cc)
]

-- ---- the list of the bits that are set

filter_member : (p : ℕ → Bool) (xs : List ℕ) (x : ℕ) → p x ≡ true → Contains xs x → Contains (filter p xs) x
filter_member p [] x e m = absurd (no_member x m)
filter_member p (y ∷ ys) x e m =
    cond_both (p y) (y ∷ filter p ys) (filter p ys) (λ l. Contains l x)
    (λ h. elim (uncons y ys x m) [ inl s ↦ same_member (y ∷ filter p ys) s (first_member y (filter p ys)) | inr n ↦ later_member y (filter p ys) x (filter_member p ys x e n) ])
    (λ h. elim (uncons y ys x m) [ inl s ↦ absurd (let k : p x ≡ false = subst (λ z. p z ≡ false) s h in cc) | inr n ↦ filter_member p ys x e n ])

range_member : (n x : ℕ) → x < n → Contains (range_with_len 0 n) x
range_member n x inside = (x, omega (arith, inside, length-range_with_len 0 n), get_or-range_with_len 0 n x x inside ∙ (let e : 0 + x ≡ x = omega arith in e))

module _ (row : List Bool) (ones : List ℕ) (is : ones ≡ filter (has row) (range_with_len 0 (columns row))) where
  pub ones_sorted : IsStrictlySortedBy nat_cmp ones
  ones_sorted = subst (IsStrictlySortedBy nat_cmp) (sym is) (IsStrictlySortedBy-filter nat_cmp (has row) (range_with_len 0 (columns row)) (range_sorted (columns row)))

  pub ones_are_set : (x : ℕ) → Contains ones x → has row x ≡ true
  ones_are_set x m = All-contains (λ y. has row y ≡ true) (filter (has row) (range_with_len 0 (columns row))) x (filter_passes (has row) (range_with_len 0 (columns row))) (subst (λ l. Contains l x) is m)

  pub set_in_ones : (x : ℕ) → has row x ≡ true → Contains ones x
  set_in_ones x is_set = subst (λ l. Contains l x) (sym is) (filter_member (has row) (range_with_len 0 (columns row)) x is_set (range_member (columns row) x (set_inside row x is_set)))

-- ---- how many bits are clear

pub clear_count : (ℕ → Bool) → ℕ → ℕ
clear_count bits zero = 0
clear_count bits (suc n) = clear_count bits n + cond (bits n) 0 1

module _ (old new : ℕ → Bool) (c : ℕ) (was_clear : old c ≡ false) (is_set : new c ≡ true) (others : (x : ℕ) → x ≢ c → new x ≡ old x) where
  same_below : (n : ℕ) → n ≤ c → clear_count new n ≡ clear_count old n
  unfolding clear_count
  same_below zero low = refl
  same_below (suc n) low =
      let e : new n ≡ old n = others n (λ f. omega arith) in
      let h : clear_count new n ≡ clear_count old n = same_below n (omega arith) in
      rw (e, h) refl

  fewer_below : (n : ℕ) → c < n → clear_count new n < clear_count old n
  unfolding clear_count
  fewer_below zero inside = absurd (omega arith)
  fewer_below (suc n) inside = elim (cases_eq n c) [
    | inl last ↦
        let h : clear_count new n ≡ clear_count old n = same_below n (omega arith) in
        let e : new n ≡ true = subst (λ x. new x ≡ true) (sym last) is_set in
        let f : old n ≡ false = subst (λ x. old x ≡ false) (sym last) was_clear in
        rw (e, f) (omega arith)
    | inr other ↦
        let h : clear_count new n < clear_count old n = fewer_below n (omega arith) in
        let e : new n ≡ old n = others n other in
        rw e (omega arith)
  ]

-- one more bit that is set is one fewer that is clear
pub fewer_clear : (old new : List Bool) (c : ℕ) → has old c ≡ false → has new c ≡ true → ((x : ℕ) → x ≢ c → has new x ≡ has old x) → columns new ≡ columns old → c < columns old →
    clear_count (has new) (columns new) < clear_count (has old) (columns old)
fewer_clear old new c was_clear is_set others same inside =
    subst (λ n. clear_count (has new) n < clear_count (has old) (columns old)) (sym same) (fewer_below (has old) (has new) c was_clear is_set others (columns old) inside)
