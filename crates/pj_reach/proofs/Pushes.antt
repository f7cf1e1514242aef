-- What holds of each member of a list, and of each two, when one is put at the end or taken off.
use Rattle.std.proofs.Common.{◌≡◌, ℕ, ◌<◌, ◌⊎◌, List, [], ◌∷◌, ◌++◌, length, get_or, refl, sym, ◌∙◌, ap, subst, inl, inr, arith}
use Rattle.std.proofs.lemmas.Bool.{cases_lt}
use Rattle.std.proofs.lemmas.List.{get_or_append_left, get_or_push, length_push}
use Rattle.pj_reach.specs.Traversals.{Among}

pub at_old : (xs : List ℕ) (y i : ℕ) → i < length xs → get_or (xs ++ y ∷ []) i 0 ≡ get_or xs i 0
at_old xs y i h = get_or_append_left xs (y ∷ []) 0 i h

pub at_new : (xs : List ℕ) (y : ℕ) → get_or (xs ++ y ∷ []) (length xs) 0 ≡ y
at_new xs y = get_or_push xs y 0 (length xs) refl

pub each_push : (P : ℕ → Type 0) (xs : List ℕ) (y : ℕ) → ((i : ℕ) → i < length xs → P (get_or xs i 0)) → P y → (i : ℕ) → i < length (xs ++ y ∷ []) → P (get_or (xs ++ y ∷ []) i 0)
each_push P xs y old new i h =
    elim (cases_lt i (length xs)) [
      | inl within ↦ subst P (sym (at_old xs y i within)) (old i within)
      | inr past ↦
          let last : i ≡ length xs = omega (arith, length_push xs y) in
          subst P (sym (ap (λ k. get_or (xs ++ y ∷ []) k 0) last ∙ at_new xs y)) new
    ]

pub each_init : (P : ℕ → Type 0) (xs : List ℕ) (y : ℕ) → ((i : ℕ) → i < length (xs ++ y ∷ []) → P (get_or (xs ++ y ∷ []) i 0)) → (i : ℕ) → i < length xs → P (get_or xs i 0)
each_init P xs y all i h = subst P (at_old xs y i h) (all i (omega (arith, length_push xs y)))

pub each_last : (P : ℕ → Type 0) (xs : List ℕ) (y : ℕ) → ((i : ℕ) → i < length (xs ++ y ∷ []) → P (get_or (xs ++ y ∷ []) i 0)) → P y
each_last P xs y all = subst P (at_new xs y) (all (length xs) (omega (arith, length_push xs y)))

pub pairs_push : (R : ℕ → ℕ → Type 0) (xs : List ℕ) (y : ℕ) → ((i j : ℕ) → i < j → j < length xs → R (get_or xs i 0) (get_or xs j 0)) → ((i : ℕ) → i < length xs → R (get_or xs i 0) y) → (i j : ℕ) → i < j → j < length (xs ++ y ∷ []) → R (get_or (xs ++ y ∷ []) i 0) (get_or (xs ++ y ∷ []) j 0)
pairs_push R xs y old new i j i_j h =
    elim (cases_lt j (length xs)) [
      | inl within ↦
          let i_in : i < length xs = omega arith in
          subst (λ x. R x (get_or (xs ++ y ∷ []) j 0)) (sym (at_old xs y i i_in)) (subst (λ x. R (get_or xs i 0) x) (sym (at_old xs y j within)) (old i j i_j within))
      | inr past ↦
          let last : j ≡ length xs = omega (arith, length_push xs y) in
          let i_in : i < length xs = omega arith in
          subst (λ x. R x (get_or (xs ++ y ∷ []) j 0)) (sym (at_old xs y i i_in)) (subst (λ x. R (get_or xs i 0) x) (sym (ap (λ k. get_or (xs ++ y ∷ []) k 0) last ∙ at_new xs y)) (new i i_in))
    ]

pub pairs_init : (R : ℕ → ℕ → Type 0) (xs : List ℕ) (y : ℕ) → ((i j : ℕ) → i < j → j < length (xs ++ y ∷ []) → R (get_or (xs ++ y ∷ []) i 0) (get_or (xs ++ y ∷ []) j 0)) → (i j : ℕ) → i < j → j < length xs → R (get_or xs i 0) (get_or xs j 0)
pairs_init R xs y all i j i_j h =
    let i_in : i < length xs = omega arith in
    subst (λ x. R x (get_or xs j 0)) (at_old xs y i i_in) (subst (λ x. R (get_or (xs ++ y ∷ []) i 0) x) (at_old xs y j h) (all i j i_j (omega (arith, length_push xs y))))

pub pairs_last : (R : ℕ → ℕ → Type 0) (xs : List ℕ) (y : ℕ) → ((i j : ℕ) → i < j → j < length (xs ++ y ∷ []) → R (get_or (xs ++ y ∷ []) i 0) (get_or (xs ++ y ∷ []) j 0)) → (i : ℕ) → i < length xs → R (get_or xs i 0) y
pairs_last R xs y all i h =
    subst (λ x. R x y) (at_old xs y i h) (subst (λ x. R (get_or (xs ++ y ∷ []) i 0) x) (at_new xs y) (all i (length xs) h (omega (arith, length_push xs y))))

pub among_push_old : (xs : List ℕ) (y v : ℕ) → Among xs v → Among (xs ++ y ∷ []) v
among_push_old xs y v h = (h.0, omega (arith, length_push xs y, h.1), at_old xs y h.0 h.1 ∙ h.2)

pub among_push_new : (xs : List ℕ) (y v : ℕ) → y ≡ v → Among (xs ++ y ∷ []) v
among_push_new xs y v e = (length xs, omega (arith, length_push xs y), at_new xs y ∙ e)

pub among_push_cases : (xs : List ℕ) (y v : ℕ) → Among (xs ++ y ∷ []) v → Among xs v ⊎ (y ≡ v)
among_push_cases xs y v h =
    elim (cases_lt h.0 (length xs)) [
      | inl within ↦ inl (h.0, within, sym (at_old xs y h.0 within) ∙ h.2)
      | inr past ↦
          let last : h.0 ≡ length xs = omega (arith, length_push xs y, h.1) in
          inr (sym (at_new xs y) ∙ sym (ap (λ k. get_or (xs ++ y ∷ []) k 0) last) ∙ h.2)
    ]

pub among_nil : (v : ℕ) → Among [] v → ⊥
among_nil v h = absurd (omega (arith, h.1))
