-- What a search through a list finds, and pairs of a list.
use Rattle.std.proofs.Common.{◌≡◌, ◌<◌, List, [], ◌∷◌, refl, sym, ◌∙◌, ap, subst, inl, inr, Bool, true, false, map, length, get_or, arith}
use Rattle.std.specs.Prelude.{Contains, Some, IsSome, AllPairs, find}
use Rattle.std.proofs.lemmas.List.{get_or-map, length-map}
use Rattle.pj_change.proofs.Members.{uncons, first_member, later_member, no_member}

-- ---- a search

pub record IsFoundBy {X : Type 0} (p : X → Bool) (xs : List X) (x : X) : Type 0 where
  pub member : Contains xs x
  pub passes : p x ≡ true

module _ {X : Type 0} (p : X → Bool) where
  -- what is found is a member, and passes
  pub found_by : (xs : List X) (x : X) → find p xs ≡ Some x → IsFoundBy p xs x
  found_by [] x e = absurd (cc)
  found_by (y ∷ ys) x e = go (found_by ys x) (p y) refl
    where
      go : (find p ys ≡ Some x → IsFoundBy p ys x) → (b : Bool) → p y ≡ b → IsFoundBy p (y ∷ ys) x
      go rest true h =
          let same : y ≡ x = (let k : find p (y ∷ ys) ≡ Some y = rw h refl in let j : Some y ≡ Some x = sym k ∙ e in cc) in
          record { member = subst (λ z. Contains (y ∷ ys) z) same (first_member y ys); passes = ap p (sym same) ∙ h }
      go rest false h =
          let k : find p (y ∷ ys) ≡ find p ys = rw h refl in
          let r = rest (sym k ∙ e) in
          record { member = later_member y ys x r.member; passes = r.passes }

  -- where a member passes, one is found
  pub is_found : (xs : List X) (x : X) → Contains xs x → p x ≡ true → IsSome (find p xs)
  is_found [] x m e = absurd (no_member x m)
  is_found (y ∷ ys) x m e = go (λ n. is_found ys x n e) (p y) refl
    where
      go : (Contains ys x → IsSome (find p ys)) → (b : Bool) → p y ≡ b → IsSome (find p (y ∷ ys))
      go rest true h = rw h refl
      go rest false h = elim (uncons y ys x m) [
        | inl same ↦ absurd (let k : p y ≡ true = ap p same ∙ e in cc)
        | inr n ↦ rw h (rest n)
      ]

-- ---- pairs

-- a list whose members keep what R asks of them is in pairs as before
pub pairs_map : {X : Type 0} (R : X → X → Type 0) (f : X → X) → ((x y : X) → R x y → R (f x) (f y)) → (xs : List X) → AllPairs R xs → AllPairs R (map f xs)
pairs_map R f kept xs all i j d below within =
    let short : j < length xs = omega (arith, length-map xs f) in
    let low : i < length xs = omega arith in
    let first = get_or-map f xs i d d low in
    let second = get_or-map f xs j d d short in
    subst (λ x. R x (get_or (map f xs) j d)) (sym first) (subst (λ y. R (f (get_or xs i d)) y) (sym second) (kept (get_or xs i d) (get_or xs j d) (all i j d below short)))
