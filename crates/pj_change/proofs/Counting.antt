-- Sums and counts over lists: where they are above 0, one member more or less, and lists with the same members.
use Rattle.std.proofs.Common.{◌≡◌, ℕ, ◌+◌, ◌≤◌, Bool, true, false, ◌||◌, List, [], ◌∷◌, ◌++◌, refl, sym, ◌∙◌, ap, subst, inl, inr, arith, cond, sum_by, count_by, nat_lt}
use Rattle.std.specs.Prelude.{Contains, ◌≢◌, flat_map}
use Rattle.std.specs.List.{list_any}
use Rattle.std.proofs.lemmas.Bool.Decides.{nat_tests}
use Rattle.std.proofs.lemmas.List.Folds.{list_any-append}
use Rattle.std.proofs.lemmas.List.Sums.{sum_by-cons, sum_by-append}
use Rattle.pj_change.proofs.Members.{first_member, later_member, no_member, uncons, splits, Splits, moved, before_member, middle_member, after_member}
use Rattle.pj_change.proofs.LawfulLists.{middle_cases, append_cases, first_part, second_part}
use Rattle.pj_change.proofs.Listings.{IsRelated}

-- ---- above 0

positive_sum_of : (m n : ℕ) → nat_lt 0 (m + n) ≡ (nat_lt 0 m || nat_lt 0 n)
positive_sum_of m n = grind (arith, nat_tests)

-- a sum is above 0 exactly where a member gives more than 0
pub positive_sum : {X : Type 0} (f : X → ℕ) (p : X → Bool) (xs : List X) → ((x : X) → nat_lt 0 (f x) ≡ p x) → nat_lt 0 (sum_by f xs) ≡ list_any p xs
positive_sum f p [] each = refl
positive_sum f p (x ∷ xs) each =
    ap (nat_lt 0) (sum_by-cons f x xs) ∙ positive_sum_of (f x) (sum_by f xs) ∙ (λ i. each x i || positive_sum f p xs each i)

positive_bit : (b : Bool) → nat_lt 0 (cond b 1 0) ≡ b
positive_bit true = refl
positive_bit false = refl

-- a count is above 0 exactly where a member passes
pub positive_count : {X : Type 0} (p : X → Bool) (xs : List X) → nat_lt 0 (count_by p xs) ≡ list_any p xs
positive_count p xs = positive_sum (λ x. cond (p x) 1 0) p xs (λ x. positive_bit (p x))

-- the test of a number that is at least 1
pub at_least_one : (n : ℕ) (b : Bool) → nat_lt 0 n ≡ b → b ≡ true → 1 ≤ n
at_least_one n b e h = (let t : nat_lt 0 n ≡ true = e ∙ h in grind (arith, nat_tests))

pub from_one : (n : ℕ) (b : Bool) → nat_lt 0 n ≡ b → 1 ≤ n → b ≡ true
from_one n b e h = (let t : nat_lt 0 n ≡ true = grind (arith, nat_tests) in sym e ∙ t)

-- a test over the lists that each member gives
pub any_flat : {X Y : Type 0} (p : Y → Bool) (f : X → List Y) (xs : List X) → list_any p (flat_map f xs) ≡ list_any (λ x. list_any p (f x)) xs
any_flat p f [] = refl
any_flat p f (x ∷ xs) = list_any-append p (f x) (flat_map f xs) ∙ ap (λ b. list_any p (f x) || b) (any_flat p f xs)

-- ---- sums of sums

pub sum_plus : {X : Type 0} (f g : X → ℕ) (xs : List X) → sum_by (λ x. f x + g x) xs ≡ sum_by f xs + sum_by g xs
sum_plus f g [] = refl
sum_plus f g (x ∷ xs) = (let rest = sum_plus f g xs in rw (sum_by-cons (λ x. f x + g x) x xs, sum_by-cons f x xs, sum_by-cons g x xs) (omega (arith, rest)))

-- two measures that agree at each member
pub sum_alike : {X : Type 0} (f g : X → ℕ) (xs : List X) → ((x : X) → Contains xs x → f x ≡ g x) → sum_by f xs ≡ sum_by g xs
sum_alike f g [] e = refl
sum_alike f g (x ∷ xs) e =
    sum_by-cons f x xs ∙ (λ i. e x (first_member x xs) i + sum_alike f g xs (λ y m. e y (later_member x xs y m)) i) ∙ sym (sum_by-cons g x xs)

pub count_alike : {X : Type 0} (p q : X → Bool) (xs : List X) → ((x : X) → Contains xs x → p x ≡ q x) → count_by p xs ≡ count_by q xs
count_alike p q xs e = sum_alike (λ x. cond (p x) 1 0) (λ x. cond (q x) 1 0) xs (λ x m. ap (λ b. cond b 1 0) (e x m))

-- ---- one member more

-- what a member adds, wherever it stands
pub sum_middle : {X : Type 0} (f : X → ℕ) (xs : List X) (x : X) (ys : List X) → sum_by f (xs ++ x ∷ ys) ≡ sum_by f (xs ++ ys) + f x
sum_middle f xs x ys = rw (sum_by-append f xs (x ∷ ys), sum_by-append f xs ys, sum_by-cons f x ys) (omega arith)

pub count_middle : {X : Type 0} (p : X → Bool) (xs : List X) (x : X) (ys : List X) → count_by p (xs ++ x ∷ ys) ≡ count_by p (xs ++ ys) + cond (p x) 1 0
count_middle p xs x ys = sum_middle (λ x. cond (p x) 1 0) xs x ys

-- ---- lists with the same members

related_without : {X : Type 0} (R : X → X → Type 0) (xs : List X) (x : X) (ys : List X) → IsRelated R (xs ++ x ∷ ys) → IsRelated R (xs ++ ys)
related_without R [] x ys h = h.1
related_without R (z ∷ xs) x ys h = (
  λ y m. h.0 y (elim (append_cases xs ys y m) [ inl b ↦ before_member xs ys x y b | inr a ↦ after_member xs ys x y a ]),
  related_without R xs x ys h.1,
)

-- a member of a list without repeats stands at no other place
not_again : {X : Type 0} (xs : List X) (x : X) (ys : List X) → IsRelated (λ x y. x ≢ y) (xs ++ x ∷ ys) → Contains (xs ++ ys) x → ⊥
not_again [] x ys h m = h.0 x m refl
not_again (z ∷ xs) x ys h m = elim (uncons z (xs ++ ys) x m) [
  | inl e ↦ h.0 x (middle_member xs ys x) e
  | inr n ↦ not_again xs x ys h.1 n
]

-- what two lists without repeats and with the same members are without one of them
module _ {X : Type 0} (x : X) (xs ys : List X) (s : Splits ys x) (a : IsRelated (λ x y. x ≢ y) (x ∷ xs)) (b : IsRelated (λ x y. x ≢ y) ys)
    (there : (y : X) → Contains (x ∷ xs) y → Contains ys y) (back : (y : X) → Contains ys y → Contains (x ∷ xs) y) where
  split_related : IsRelated (λ x y. x ≢ y) (s.before ++ x ∷ s.after)
  split_related = subst (IsRelated (λ x y. x ≢ y)) s.is b

  left_there : (y : X) → Contains xs y → Contains (s.before ++ s.after) y
  left_there y m = elim (middle_cases s.before x s.after y (moved y s.is (there y (later_member x xs y m)))) [
    | inl k ↦ first_part s.before s.after y k
    | inr t ↦ elim t [ inl e ↦ absurd (a.0 y m e) | inr k ↦ second_part s.before s.after y k ]
  ]

  left_back : (y : X) → Contains (s.before ++ s.after) y → Contains xs y
  left_back y m = elim (uncons x xs y (back y (moved y (sym s.is) whole))) [
    | inl e ↦ absurd (not_again s.before x s.after split_related (subst (Contains (s.before ++ s.after)) (sym e) m))
    | inr n ↦ n
  ]
    where
      whole : Contains (s.before ++ x ∷ s.after) y
      whole = elim (append_cases s.before s.after y m) [ inl k ↦ before_member s.before s.after x y k | inr k ↦ after_member s.before s.after x y k ]

-- two lists without repeats and with the same members have equal sums
pub sum_same : {X : Type 0} (f : X → ℕ) (xs ys : List X) → IsRelated (λ x y. x ≢ y) xs → IsRelated (λ x y. x ≢ y) ys →
    ((x : X) → Contains xs x → Contains ys x) → ((x : X) → Contains ys x → Contains xs x) → sum_by f xs ≡ sum_by f ys
sum_same f [] [] a b there back = refl
sum_same f [] (y ∷ ys) a b there back = absurd (no_member y (back y (first_member y ys)))
sum_same f (x ∷ xs) ys a b there back =
    let s = splits ys x (there x (first_member x xs)) in
    let rest = sum_same f xs (s.before ++ s.after) a.1 (related_without (λ x y. x ≢ y) s.before x s.after (split_related x xs ys s a b there back))
    (left_there x xs ys s a b there back) (left_back x xs ys s a b there back) in
    let more = sum_by-cons f x xs in
    let middle = sum_middle f s.before x s.after in
    let split : sum_by f ys ≡ sum_by f (s.before ++ x ∷ s.after) = ap (sum_by f) s.is in
    omega (arith, rest, more, middle, split)
