-- Members of a list that is filtered or mapped, or gathered from what each member of another gives.
use Rattle.std.proofs.Common.{◌≡◌, List, [], ◌∷◌, refl, sym, ◌∙◌, ap, subst, ◌⊎◌, inl, inr, ⊎_elim, Bool, true, false, Option, Some, None, map, filter}
use Rattle.std.specs.Prelude.{Contains, filter_map, flat_map}
use Rattle.pj_change.proofs.Members.{uncons, first_member, later_member, no_member, same_member, moved}
use Rattle.pj_change.proofs.LawfulLists.{append_cases, first_part, second_part}

-- ---- filtered

pub record IsPassed {X : Type 0} (p : X → Bool) (xs : List X) (x : X) : Type 0 where
  pub member : Contains xs x
  pub passes : p x ≡ true

module _ {X : Type 0} (p : X → Bool) where
  filter_keeps : (y : X) (ys : List X) → p y ≡ true → filter p (y ∷ ys) ≡ y ∷ filter p ys
  filter_keeps y ys h = rw h refl

  filter_drops : (y : X) (ys : List X) → p y ≡ false → filter p (y ∷ ys) ≡ filter p ys
  filter_drops y ys h = rw h refl

  later_passed : (y : X) (ys : List X) (x : X) → IsPassed p ys x → IsPassed p (y ∷ ys) x
  later_passed y ys x h = record { member = later_member y ys x h.member; passes = h.passes }

  first_passed : (y : X) (ys : List X) (x : X) → y ≡ x → p y ≡ true → IsPassed p (y ∷ ys) x
  first_passed y ys x e h = record { member = same_member (y ∷ ys) e (first_member y ys); passes = ap p (sym e) ∙ h }

  passed_in : (y : X) (ys : List X) (x : X) → (Contains (filter p ys) x → IsPassed p ys x) → Contains (filter p (y ∷ ys)) x → (b : Bool) → p y ≡ b → IsPassed p (y ∷ ys) x
  passed_in y ys x rest m true h = elim (uncons y (filter p ys) x (moved x (filter_keeps y ys h) m)) [
    | inl e ↦ first_passed y ys x e h
    | inr n ↦ later_passed y ys x (rest n)
  ]
  passed_in y ys x rest m false h = later_passed y ys x (rest (moved x (filter_drops y ys h) m))

  -- a member of the filtered list is one of the list, and passes
  pub passed : (xs : List X) (x : X) → Contains (filter p xs) x → IsPassed p xs x
  passed [] x m = absurd (no_member x m)
  passed (y ∷ ys) x m = passed_in y ys x (passed ys x) m (p y) refl

  kept_in : (y : X) (ys : List X) (x : X) → (Contains ys x → Contains (filter p ys) x) → p x ≡ true → Contains (y ∷ ys) x → (b : Bool) → p y ≡ b → Contains (filter p (y ∷ ys)) x
  kept_in y ys x rest e m true h = elim (uncons y ys x m) [
    | inl s ↦ moved x (sym (filter_keeps y ys h)) (same_member (y ∷ filter p ys) s (first_member y (filter p ys)))
    | inr n ↦ moved x (sym (filter_keeps y ys h)) (later_member y (filter p ys) x (rest n))
  ]
  kept_in y ys x rest e m false h = elim (uncons y ys x m) [
    | inl s ↦ absurd (let k : p y ≡ true = ap p s ∙ e in cc)
    | inr n ↦ moved x (sym (filter_drops y ys h)) (rest n)
  ]

  -- a member that passes is one of the filtered list
  pub kept : (xs : List X) (x : X) → Contains xs x → p x ≡ true → Contains (filter p xs) x
  kept [] x m e = absurd (no_member x m)
  kept (y ∷ ys) x m e = kept_in y ys x (λ n. kept ys x n e) e m (p y) refl

-- ---- mapped

pub record IsImage {X Y : Type 0} (f : X → Y) (xs : List X) (y : Y) : Type 0 where
  pub it : X
  pub member : Contains xs it
  pub is : f it ≡ y

module _ {X Y : Type 0} (f : X → Y) where
  later_image : (z : X) (xs : List X) (y : Y) → IsImage f xs y → IsImage f (z ∷ xs) y
  later_image z xs y h = record { it = h.it; member = later_member z xs h.it h.member; is = h.is }

  -- a member of the mapped list comes from one of the list
  pub image : (xs : List X) (y : Y) → Contains (map f xs) y → IsImage f xs y
  image [] y m = absurd (no_member y m)
  image (x ∷ xs) y m = elim (uncons (f x) (map f xs) y m) [
    | inl e ↦ record { it = x; member = first_member x xs; is = e }
    | inr n ↦ later_image x xs y (image xs y n)
  ]

  pub mapped : (xs : List X) (x : X) → Contains xs x → Contains (map f xs) (f x)
  mapped [] x m = absurd (no_member x m)
  mapped (y ∷ ys) x m = elim (uncons y ys x m) [
    | inl e ↦ same_member (f y ∷ map f ys) (ap f e) (first_member (f y) (map f ys))
    | inr n ↦ later_member (f y) (map f ys) (f x) (mapped ys x n)
  ]

-- ---- picked by `filter_map`

-- a member of the picked list comes from one of the list
pub picked_from : {X Y : Type 0} (f : X → Option Y) (xs : List X) (y : Y) → Contains (filter_map f xs) y → (x : X) × Contains xs x × (f x ≡ Some y)
picked_from f [] y m = absurd (no_member y m)
picked_from {X} {Y} f (z ∷ zs) y m = by (picked_from f zs y) (f z) refl
  where
    on : (x : X) × Contains zs x × (f x ≡ Some y) → (x : X) × Contains (z ∷ zs) x × (f x ≡ Some y)
    on r = (r.0, later_member z zs r.0 r.1, r.2)

    by : (Contains (filter_map f zs) y → (x : X) × Contains zs x × (f x ≡ Some y)) → (o : Option Y) → f z ≡ o → (x : X) × Contains (z ∷ zs) x × (f x ≡ Some y)
    by rest None g = on (rest (rw g at m))
    by rest (Some w) g = ⊎_elim (λ (e : w ≡ y). (z, first_member z zs, g ∙ ap Some e)) (λ (n : Contains (filter_map f zs) y). on (rest n)) (uncons w (filter_map f zs) y (rw g at m))

pub picked_there : {X Y : Type 0} (f : X → Option Y) (xs : List X) (x : X) (y : Y) → Contains xs x → f x ≡ Some y → Contains (filter_map f xs) y
picked_there f [] x y m e = absurd (no_member x m)
picked_there {X} {Y} f (z ∷ zs) x y m e = by (picked_there f zs x y) (f z) refl (uncons z zs x m)
  where
    some_is : (a b : Y) → Some a ≡ Some b → a ≡ b
    some_is a b e = cc

    by : (Contains zs x → f x ≡ Some y → Contains (filter_map f zs) y) → (o : Option Y) → f z ≡ o → (z ≡ x) ⊎ Contains zs x → Contains (filter_map f (z ∷ zs)) y
    by rest None g (inl s) = absurd (let h : ◌≡◌ {A = Option Y} None (Some y) = sym g ∙ ap f s ∙ e in cc)
    by rest None g (inr n) = rw g (rest n e)
    by rest (Some w) g (inl s) = rw g (subst (Contains (w ∷ filter_map f zs)) (some_is w y (sym g ∙ ap f s ∙ e)) (first_member w (filter_map f zs)))
    by rest (Some w) g (inr n) = rw g (later_member w (filter_map f zs) y (rest n e))

-- ---- gathered by `flat_map`

-- a member of the gathered list is one of the list of some member
pub flat_from : {X Y : Type 0} (f : X → List Y) (xs : List X) (y : Y) → Contains (flat_map f xs) y → (x : X) × Contains xs x × Contains (f x) y
flat_from f [] y m = absurd (no_member y m)
flat_from f (x ∷ xs) y m = ⊎_elim (λ (a : Contains (f x) y). (x, first_member x xs, a)) (λ (b : Contains (flat_map f xs) y). let r = flat_from f xs y b in (r.0, later_member x xs r.0 r.1, r.2)) (append_cases (f x) (flat_map f xs) y m)

pub flat_there : {X Y : Type 0} (f : X → List Y) (xs : List X) (x : X) (y : Y) → Contains xs x → Contains (f x) y → Contains (flat_map f xs) y
flat_there f [] x y c m = absurd (no_member x c)
flat_there {X} {Y} f (z ∷ xs) x y c m = ⊎_elim
    (λ (s : z ≡ x). first_part (f z) (flat_map f xs) y (subst (λ (w : X). Contains (f w) y) (sym s) m))
    (λ (n : Contains xs x). second_part (f z) (flat_map f xs) y (flat_there f xs x y n m))
    (uncons z xs x c)
