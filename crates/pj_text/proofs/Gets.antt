-- What holds of whatever an option gives, step by step through a reading.
use Rattle.std.proofs.Common.{◌≡◌, append_assoc, Bool, true, false, cond, List, [], ◌∷◌, ◌++◌, Option, Some, None, refl, subst}
use Rattle.std.proofs.lemmas.List.{append-nil}
use Rattle.std.proofs.lemmas.Option.{same_Some, none-some}
use Rattle.pj_text.specs.Reading.{◌>>=◌}

-- whatever the option gives has the property
pub record Gets {A : Type 0} (o : Option A) (Q : A → Type 0) : Type 0 where
  pub gets : (x : A) → o ≡ Some x → Q x

pub gets_some : {A : Type 0} {Q : A → Type 0} (x : A) → Q x → Gets (Some x) Q
gets_some {A} {Q} x q = record { gets = λ y e. subst Q (same_Some x y e) q }

pub gets_none : {A : Type 0} {Q : A → Type 0} → Gets None Q
gets_none = record { gets = λ y e. absurd (none-some y e) }

-- a step, and then what follows it
pub gets_then : {A B : Type 0} {P : A → Type 0} {Q : B → Type 0} (o : Option A) (f : A → Option B) → Gets o P → ((x : A) → P x → Gets (f x) Q) → Gets (o >>= f) Q
gets_then None f h k = gets_none
gets_then (Some x) f h k = k x (h.gets x refl)

-- a test that has to pass
pub gets_if : {A : Type 0} {Q : A → Type 0} (b : Bool) (o : Option A) → (b ≡ true → Gets o Q) → Gets (cond b o None) Q
gets_if true o h = h refl
gets_if false o h = gets_none

-- one of two readings
pub gets_either : {A : Type 0} {Q : A → Type 0} (b : Bool) (o p : Option A) → (b ≡ true → Gets o Q) → Gets p Q → Gets (cond b o p) Q
gets_either true o p h k = h refl
gets_either false o p h k = k

-- another property that follows
pub gets_weaker : {A : Type 0} {P Q : A → Type 0} (o : Option A) → Gets o P → ((x : A) → P x → Q x) → Gets o Q
gets_weaker o h k = record { gets = λ x e. k x (h.gets x e) }

-- an option that gives nothing
pub none_from : {A : Type 0} (o : Option A) → ((x : A) → o ≡ Some x → ⊥) → o ≡ None
none_from None h = refl
none_from (Some x) h = absurd (h x refl)

-- a member before the members of two lists
pub append-cons : {A : Type 0} (x : A) (xs ys : List A) → (x ∷ xs) ++ ys ≡ x ∷ (xs ++ ys)
append-cons x xs ys = refl

pub append-empty : {A : Type 0} (ys : List A) → [] ++ ys ≡ ys
append-empty ys = refl

-- pieces of text regrouped
pub ruleset appends = (append_assoc, append-nil, append-cons, append-empty)
