-- Members of a list.
use Rattle.std.proofs.Common.{◌≡◌, ℕ, zero, suc, List, [], ◌∷◌, ◌++◌, refl, sym, ◌∙◌, ap, subst, inl, inr, arith, Bool, true, false}
use Rattle.std.specs.Prelude.{Contains, ◌⊎◌, ◌||◌, Some, slice_get}
use Rattle.std.specs.List.{AllByRecursion, list_any, list_all}
use Rattle.std.proofs.lemmas.Bool.{or_right}
use Rattle.std.proofs.lemmas.Option.{slice_get_within, get_or_from_slice_get}

-- ---- members by cases

pub first_member : {X : Type 0} (x : X) (xs : List X) → Contains (x ∷ xs) x
first_member x xs = (0, omega arith, refl)

pub later_member : {X : Type 0} (y : X) (ys : List X) (x : X) → Contains ys x → Contains (y ∷ ys) x
later_member y ys x m = (suc m.0, omega (arith, m.1), m.2)

pub uncons : {X : Type 0} (y : X) (ys : List X) (x : X) → Contains (y ∷ ys) x → (y ≡ x) ⊎ Contains ys x
uncons y ys x (zero, low, is) = inl is
uncons y ys x (suc k, low, is) = inr (k, omega arith, is)

pub no_member : {X : Type 0} (x : X) → Contains [] x → ⊥
no_member x m = omega (arith, m.1)

pub moved : {X : Type 0} {xs ys : List X} (x : X) → xs ≡ ys → Contains xs x → Contains ys x
moved x e m = subst (λ l. Contains l x) e m

pub same_member : {X : Type 0} (xs : List X) {x y : X} → x ≡ y → Contains xs x → Contains xs y
same_member xs e m = subst (λ z. Contains xs z) e m

-- what stands at a place is a member
pub member_at : {X : Type 0} (xs : List X) (k : ℕ) (x : X) → slice_get xs k ≡ Some x → Contains xs x
member_at xs k x e = (k, slice_get_within xs k x e, get_or_from_slice_get xs k x x e)

-- ---- what holds of each member

pub each : {X : Type 0} (P : X → Type 0) (xs : List X) → AllByRecursion P xs → (x : X) → Contains xs x → P x
each P [] a x m = absurd (no_member x m)
each P (y ∷ ys) a x m = elim (uncons y ys x m) [ inl e ↦ subst P e a.0 | inr n ↦ each P ys a.1 x n ]

pub from_each : {X : Type 0} (P : X → Type 0) (xs : List X) → ((x : X) → Contains xs x → P x) → AllByRecursion P xs
from_each P [] f = tt
from_each P (y ∷ ys) f = (f y (first_member y ys), from_each P ys (λ x m. f x (later_member y ys x m)))

-- ---- tests

pub any_member : {X : Type 0} (p : X → Bool) (xs : List X) (x : X) → Contains xs x → p x ≡ true → list_any p xs ≡ true
any_member p [] x m e = absurd (no_member x m)
any_member p (y ∷ ys) x m e = elim (uncons y ys x m) [
  | inl s ↦ (let h : p y ≡ true = ap p s ∙ e in rw h refl)
  | inr n ↦ (let h : list_any p ys ≡ true = any_member p ys x n e in or_right (p y) (list_any p ys) h)
]

-- a member that passes
pub record Passes {X : Type 0} (p : X → Bool) (xs : List X) : Type 0 where
  pub it : X
  pub member : Contains xs it
  pub is : p it ≡ true

pub passes : {X : Type 0} (p : X → Bool) (xs : List X) → list_any p xs ≡ true → Passes p xs
passes p [] e = absurd (cc)
passes p (y ∷ ys) e = go (passes p ys) (p y) refl
  where
    on : Passes p ys → Passes p (y ∷ ys)
    on h = record { it = h.it; member = later_member y ys h.it h.member; is = h.is }

    more : p y ≡ false → list_any p ys ≡ true
    more h = rw h at e

    go : (list_any p ys ≡ true → Passes p ys) → (b : Bool) → p y ≡ b → Passes p (y ∷ ys)
    go rest true h = record { it = y; member = first_member y ys; is = h }
    go rest false h = on (rest (more h))

-- no member passes
pub none_passes : {X : Type 0} (p : X → Bool) (xs : List X) → ((x : X) → Contains xs x → p x ≡ false) → list_any p xs ≡ false
none_passes p xs f = go (list_any p xs) refl
  where
    go : (b : Bool) → list_any p xs ≡ b → list_any p xs ≡ false
    go true h = (let found = passes p xs h in absurd (let g = f found.it found.member in let k = found.is in cc))
    go false h = h

-- tests of the members of one set agree, where they agree at each
pub any_same : {X : Type 0} (p q : X → Bool) (xs ys : List X) → ((x : X) → Contains xs x → Contains ys x) → ((x : X) → Contains ys x → Contains xs x) → ((x : X) → p x ≡ q x) → list_any p xs ≡ list_any q ys
any_same p q xs ys there back e = go (list_any p xs) (list_any q ys) refl refl
  where
    go : (a b : Bool) → list_any p xs ≡ a → list_any q ys ≡ b → list_any p xs ≡ list_any q ys
    go true true f g = f ∙ sym g
    go false false f g = f ∙ sym g
    go true false f g = absurd (let h = passes p xs f in let k : list_any q ys ≡ true = any_member q ys h.it (there h.it h.member) (sym (e h.it) ∙ h.is) in cc)
    go false true f g = absurd (let h = passes q ys g in let k : list_any p xs ≡ true = any_member p xs h.it (back h.it h.member) (e h.it ∙ h.is) in cc)

pub any_each : {X : Type 0} (p q : X → Bool) (xs : List X) → ((x : X) → p x ≡ q x) → list_any p xs ≡ list_any q xs
any_each p q xs e = any_same p q xs xs (λ x m. m) (λ x m. m) e

-- a test that each member passes
pub all_member : {X : Type 0} (p : X → Bool) (xs : List X) (x : X) → list_all p xs ≡ true → Contains xs x → p x ≡ true
all_member p [] x e m = absurd (no_member x m)
all_member p (y ∷ ys) x e m = go (all_member p ys x) (p y) refl
  where
    more : p y ≡ true → list_all p ys ≡ true
    more h = rw h at e

    go : (list_all p ys ≡ true → Contains ys x → p x ≡ true) → (b : Bool) → p y ≡ b → p x ≡ true
    go rest true h = elim (uncons y ys x m) [ inl s ↦ ap p (sym s) ∙ h | inr n ↦ rest (more h) n ]
    go rest false h = absurd (let f : list_all p (y ∷ ys) ≡ false = rw h refl in cc)

pub all_from : {X : Type 0} (p : X → Bool) (xs : List X) → ((x : X) → Contains xs x → p x ≡ true) → list_all p xs ≡ true
all_from p [] f = refl
all_from p (y ∷ ys) f =
    let h : p y ≡ true = f y (first_member y ys) in
    rw h (all_from p ys (λ x m. f x (later_member y ys x m)))

-- ---- a member splits the list

pub record Splits {X : Type 0} (xs : List X) (x : X) : Type 0 where
  pub before : List X
  pub after : List X
  pub is : xs ≡ before ++ x ∷ after

pub splits : {X : Type 0} (xs : List X) (x : X) → Contains xs x → Splits xs x
splits [] x m = absurd (no_member x m)
splits (y ∷ ys) x m = elim (uncons y ys x m) [
  | inl e ↦ record { before = []; after = ys; is = ap (λ z. z ∷ ys) e }
  | inr n ↦ on (splits ys x n)
]
  where
    on : Splits ys x → Splits (y ∷ ys) x
    on s = record { before = y ∷ s.before; after = s.after; is = ap (λ l. y ∷ l) s.is }

pub before_member : {X : Type 0} (before after : List X) (c x : X) → Contains before x → Contains (before ++ c ∷ after) x
before_member [] after c x m = absurd (no_member x m)
before_member (y ∷ ys) after c x m = elim (uncons y ys x m) [
  | inl e ↦ same_member (y ∷ (ys ++ c ∷ after)) e (first_member y (ys ++ c ∷ after))
  | inr n ↦ later_member y (ys ++ c ∷ after) x (before_member ys after c x n)
]

pub middle_member : {X : Type 0} (before after : List X) (c : X) → Contains (before ++ c ∷ after) c
middle_member [] after c = first_member c after
middle_member (y ∷ ys) after c = later_member y (ys ++ c ∷ after) c (middle_member ys after c)

pub after_member : {X : Type 0} (before after : List X) (c x : X) → Contains after x → Contains (before ++ c ∷ after) x
after_member [] after c x m = later_member c after x m
after_member (y ∷ ys) after c x m = later_member y (ys ++ c ∷ after) x (after_member ys after c x m)

-- ---- equal lists

pub heads : {X : Type 0} (x y : X) (xs ys : List X) → x ∷ xs ≡ y ∷ ys → x ≡ y
heads x y xs ys e = cc

pub tails : {X : Type 0} (x y : X) (xs ys : List X) → x ∷ xs ≡ y ∷ ys → xs ≡ ys
tails x y xs ys e = cc

pub not_nil : {X : Type 0} (b : List X) (x : X) (a : List X) → [] ≡ b ++ x ∷ a → ⊥
not_nil [] x a e = cc
not_nil (y ∷ b) x a e = cc

-- two tests that agree at each member
pub any_alike : {X : Type 0} (p q : X → Bool) (xs : List X) → ((x : X) → Contains xs x → p x ≡ q x) → list_any p xs ≡ list_any q xs
any_alike p q [] e = refl
any_alike p q (x ∷ xs) e = λ i. e x (first_member x xs) i || any_alike p q xs (λ y m. e y (later_member x xs y m)) i

pub none_member : {X : Type 0} (p : X → Bool) (xs : List X) (x : X) → list_any p xs ≡ false → Contains xs x → p x ≡ false
none_member p xs x e m = go (p x) refl
  where
    go : (b : Bool) → p x ≡ b → p x ≡ false
    go true h = absurd (let k : list_any p xs ≡ true = any_member p xs x m h in cc)
    go false h = h
