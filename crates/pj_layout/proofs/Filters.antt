-- What a filter keeps.
use Rattle.std.proofs.Common.{◌≡◌, ℕ, ◌<◌, ◌≤◌, Bool, true, false, cond, List, [], ◌∷◌, length, nat_eq, refl, ◌∙◌, ap, subst, arith, inl, inr}
use Rattle.std.specs.Prelude.{Contains, not, filter}
use Rattle.std.proofs.lemmas.Bool.{eq-eqb, ne_eqb}
use Rattle.pj_change.proofs.Members.{uncons, first_member, later_member, no_member}

module _ {X : Type 0} (p : X → Bool) where
  pub filtered_member : (xs : List X) (x : X) → Contains xs x → p x ≡ true → Contains (filter p xs) x
  filtered_member [] x m e = absurd (no_member x m)
  filtered_member (y ∷ ys) x m e = elim (uncons y ys x m) [
    | inl same ↦ (let h : p y ≡ true = ap p same ∙ e in rw h (subst (λ z. Contains (y ∷ filter p ys) z) same (first_member y (filter p ys))))
    | inr later ↦ kept (p y) (filtered_member ys x later e)
  ]
    where
      kept : (b : Bool) → Contains (filter p ys) x → Contains (cond b (y ∷ filter p ys) (filter p ys)) x
      kept true n = later_member y (filter p ys) x n
      kept false n = n

  pub member_filtered : (xs : List X) (x : X) → Contains (filter p xs) x → Contains xs x × (p x ≡ true)
  member_filtered [] x m = absurd (no_member x m)
  member_filtered (y ∷ ys) x m = go (member_filtered ys x) (p y) refl m
    where
      go : (Contains (filter p ys) x → Contains ys x × (p x ≡ true)) → (b : Bool) → p y ≡ b → Contains (cond b (y ∷ filter p ys) (filter p ys)) x → Contains (y ∷ ys) x × (p x ≡ true)
      go on true e n = elim (uncons y (filter p ys) x n) [
        | inl same ↦ (subst (λ z. Contains (y ∷ ys) z) same (first_member y ys), subst (λ z. p z ≡ true) same e)
        | inr later ↦ (let rest = on later in (later_member y ys x rest.0, rest.1))
      ]
      go on false e n = (let rest = on n in (later_member y ys x rest.0, rest.1))

  pub no_longer : (xs : List X) → length (filter p xs) ≤ length xs
  no_longer [] = omega arith
  no_longer (y ∷ ys) = go (p y) (no_longer ys)
    where
      go : (b : Bool) → length (filter p ys) ≤ length ys → length (cond b (y ∷ filter p ys) (filter p ys)) ≤ length (y ∷ ys)
      go true h = omega arith
      go false h = omega arith

  pub shorter : (xs : List X) (x : X) → Contains xs x → p x ≡ false → length (filter p xs) < length xs
  shorter [] x m e = absurd (no_member x m)
  shorter (y ∷ ys) x m e = elim (uncons y ys x m) [
    | inl same ↦ (let h : p y ≡ false = ap p same ∙ e in let rest = no_longer ys in rw h (omega arith))
    | inr later ↦ go (p y) (shorter ys x later e)
  ]
    where
      go : (b : Bool) → length (filter p ys) < length ys → length (cond b (y ∷ filter p ys) (filter p ys)) < length (y ∷ ys)
      go true h = omega arith
      go false h = omega arith

-- ---- a list without a number

pub is_not : (x y : ℕ) → (x ≡ y → ⊥) → not (nat_eq x y) ≡ true
is_not x y n = (let e : nat_eq x y ≡ false = ne_eqb x y n in rw e refl)

pub not_is : (x y : ℕ) → not (nat_eq x y) ≡ true → x ≡ y → ⊥
not_is x y e same = (let h : nat_eq x y ≡ true = eq-eqb x y same in let f : not (nat_eq x y) ≡ false = rw h refl in (cc))

pub itself : (x : ℕ) → not (nat_eq x x) ≡ false
itself x = (let h : nat_eq x x ≡ true = eq-eqb x x refl in rw h refl)
