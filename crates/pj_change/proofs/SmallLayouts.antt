-- Layouts of small orders, computed by hand: three classes without an order, three in a row, and the N of four.
use Rattle.std.proofs.Common.{◌≡◌, ℕ, zero, suc, ◌<◌, ◌≤◌, List, [], ◌∷◌, length, refl, sym, ◌∙◌, subst, arith, inl, inr, Bool, true, false}
use Rattle.std.specs.Prelude.{Contains, ◌≢◌, AllPairs, Any, IsTrue}
use Rattle.std.specs.Ordering.{nat_cmp}
use Rattle.std.specs.List.{AllByRecursion}
use Rattle.std.specs.List.Sorted.{IsStrictlySortedBy}
use Rattle.std.proofs.lemmas.Bool.{cases_eq}
use Rattle.std.proofs.lemmas.List.Elements.{All-from_recursion}
use Rattle.pj_change.specs.Layout.{Shapes, One, Series, Sides, Tangle, none, more, IsChain, here, on, IsLinked, AreApart, AreLinkedSets, AreUnordered, AreOrdered, AllBefore, LeastBelow, IsFree, IsLayout}
use Rattle.pj_change.proofs.Members.{uncons, first_member, no_member, each}

-- ---- single classes

-- a member of a list of one
only : (x y : ℕ) → Contains (x ∷ []) y → x ≡ y
only x y m = elim (uncons x [] y m) [ inl e ↦ e | inr n ↦ absurd (no_member y n) ]

single_linked : (link : ℕ → ℕ → Type 0) (x : ℕ) → IsLinked link (x ∷ [])
single_linked link x y z m n = subst (λ w. IsChain link (x ∷ []) y w) (sym (only x y m) ∙ only x z n) (here m)

single_sorted : (x : ℕ) → IsStrictlySortedBy nat_cmp (x ∷ [])
unfolding IsStrictlySortedBy
single_sorted x = (tt, tt)

abbrev three : List ℕ
three = 0 ∷ 1 ∷ 2 ∷ []

abbrev singles : List (List ℕ)
singles = (0 ∷ []) ∷ (1 ∷ []) ∷ (2 ∷ []) ∷ []

abbrev ones : Shapes
ones = more (One 0) (more (One 1) (more (One 2) none))

in_three : (x : ℕ) → Contains (0 ∷ 1 ∷ 2 ∷ []) x → Any (λ part. Contains part x) ((0 ∷ []) ∷ (1 ∷ []) ∷ (2 ∷ []) ∷ [])
in_three = each (λ x. Any (λ part. Contains part x) ((0 ∷ []) ∷ (1 ∷ []) ∷ (2 ∷ []) ∷ [])) (0 ∷ 1 ∷ 2 ∷ [])
    ((0, 0 ∷ [], omega arith, refl, first_member 0 []), ((1, 1 ∷ [], omega arith, refl, first_member 1 []), ((2, 2 ∷ [], omega arith, refl, first_member 2 []), tt)))

of_singles : (x : ℕ) → Any (λ part. Contains part x) ((0 ∷ []) ∷ (1 ∷ []) ∷ (2 ∷ []) ∷ []) → Contains (0 ∷ 1 ∷ 2 ∷ []) x
of_singles x a = each (λ part. Contains part x → Contains (0 ∷ 1 ∷ 2 ∷ []) x) ((0 ∷ []) ∷ (1 ∷ []) ∷ (2 ∷ []) ∷ []) (
  (λ m. subst (λ y. Contains (0 ∷ 1 ∷ 2 ∷ []) y) (only 0 x m) (0, omega arith, refl)),
  (
    (λ m. subst (λ y. Contains (0 ∷ 1 ∷ 2 ∷ []) y) (only 1 x m) (1, omega arith, refl)),
    ((λ m. subst (λ y. Contains (0 ∷ 1 ∷ 2 ∷ []) y) (only 2 x m) (2, omega arith, refl)), tt),
  ),
)
    a.1 (a.0, a.2, a.3) a.4

-- ---- pairs of three

-- what holds of each two of three, the earlier one first
pairs_of_three : {X : Type 0} (R : X → X → Type 0) (x y z : X) → R x y → R x z → R y z → AllPairs R (x ∷ y ∷ z ∷ [])
pairs_of_three R x y z a b c zero zero d l h = absurd (omega arith)
pairs_of_three R x y z a b c zero (suc zero) d l h = a
pairs_of_three R x y z a b c zero (suc (suc zero)) d l h = b
pairs_of_three R x y z a b c zero (suc (suc (suc j))) d l h = absurd (omega arith)
pairs_of_three R x y z a b c (suc zero) zero d l h = absurd (omega arith)
pairs_of_three R x y z a b c (suc zero) (suc zero) d l h = absurd (omega arith)
pairs_of_three R x y z a b c (suc zero) (suc (suc zero)) d l h = c
pairs_of_three R x y z a b c (suc zero) (suc (suc (suc j))) d l h = absurd (omega arith)
pairs_of_three R x y z a b c (suc (suc i)) j d l h = absurd (omega arith)

-- two singles are apart, where their members are not linked
apart_singles : (link : ℕ → ℕ → Type 0) (x y : ℕ) → x ≢ y → (link x y → ⊥) → (u v : ℕ) → Contains (x ∷ []) u → Contains (y ∷ []) v → (u ≢ v) × (link u v → ⊥)
apart_singles link x y n f u v m k = (
  (λ e. n (only x u m ∙ e ∙ sym (only y v k))),
  (λ g. f (subst (λ w. link w y) (sym (only x u m)) (subst (λ w. link u w) (sym (only y v k)) g))),
)

-- the singles are the linked sets of three, where no two are linked
linked_singles : (link : ℕ → ℕ → Type 0) → (link 0 1 → ⊥) → (link 0 2 → ⊥) → (link 1 2 → ⊥) → AreLinkedSets link (0 ∷ 1 ∷ 2 ∷ []) ((0 ∷ []) ∷ (1 ∷ []) ∷ (2 ∷ []) ∷ [])
linked_singles link a b c = record {
  several = omega arith;
  members = λ x. (in_three x, of_singles x);
  sorted = All-from_recursion (IsStrictlySortedBy nat_cmp) singles (single_sorted 0, (single_sorted 1, (single_sorted 2, tt)));
  nonempty = All-from_recursion (λ part. 0 < length part) singles (omega arith, (omega arith, (omega arith, tt)));
  linked = All-from_recursion (IsLinked link) singles (single_linked link 0, (single_linked link 1, (single_linked link 2, tt)));
  apart = pairs_of_three (AreApart link) (0 ∷ []) (1 ∷ []) (2 ∷ [])
      (apart_singles link 0 1 (λ e. omega arith) a) (apart_singles link 0 2 (λ e. omega arith) b) (apart_singles link 1 2 (λ e. omega arith) c);
}

-- ---- no order

abbrev never : ℕ → ℕ → Type 0
never x y = ⊥

unordered_linked : IsLinked (AreUnordered never) (0 ∷ 1 ∷ 2 ∷ [])
unordered_linked x y m n = elim (cases_eq x y) [
  | inl e ↦ subst (λ w. IsChain (AreUnordered never) (0 ∷ 1 ∷ 2 ∷ []) x w) e (here m)
  | inr d ↦ on (here m) (d, (λ b. b), (λ b. b)) n
]

-- three classes without an order stand side by side
pub antichain : IsLayout never 0 (0 ∷ 1 ∷ 2 ∷ []) (Sides (more (One 0) (more (One 1) (more (One 2) none))))
antichain = (
  omega arith,
  unordered_linked,
  singles,
  linked_singles (AreOrdered never) (λ o. elim o [ inl b ↦ b | inr b ↦ b ]) (λ o. elim o [ inl b ↦ b | inr b ↦ b ]) (λ o. elim o [ inl b ↦ b | inr b ↦ b ]),
  pairs_of_three LeastBelow (0 ∷ []) (1 ∷ []) (2 ∷ []) (omega arith) (omega arith) (omega arith),
  (0 ∷ [], (1 ∷ []) ∷ (2 ∷ []) ∷ [], refl, refl, (1 ∷ [], (2 ∷ []) ∷ [], refl, refl, (2 ∷ [], [], refl, refl, refl))),
)

-- ---- a row

abbrev below : ℕ → ℕ → Type 0
below x y = x < y

-- three classes in a row stand one after the other
pub chain : IsLayout below 0 (0 ∷ 1 ∷ 2 ∷ []) (Series (more (One 0) (more (One 1) (more (One 2) none))))
chain = (
  omega arith,
  singles,
  linked_singles (AreUnordered below) (λ u. u.1 (omega arith)) (λ u. u.1 (omega arith)) (λ u. u.1 (omega arith)),
  pairs_of_three (AllBefore below) (0 ∷ []) (1 ∷ []) (2 ∷ []) (row 0 1 (omega arith)) (row 0 2 (omega arith)) (row 1 2 (omega arith)),
  (0 ∷ [], (1 ∷ []) ∷ (2 ∷ []) ∷ [], refl, refl, (1 ∷ [], (2 ∷ []) ∷ [], refl, refl, (2 ∷ [], [], refl, refl, refl))),
)
  where
    row : (x y : ℕ) → x < y → (u v : ℕ) → Contains (x ∷ []) u → Contains (y ∷ []) v → u < v
    row x y l u v m n = (let a = only x u m in let b = only y v n in omega arith)

-- ---- the N of four: 0 and 1 before 2, and 1 before 3

abbrev n_test : ℕ → ℕ → Bool
n_test zero (suc (suc zero)) = true
n_test (suc zero) (suc (suc zero)) = true
n_test (suc zero) (suc (suc (suc zero))) = true
n_test x y = false

abbrev n_order : ℕ → ℕ → Type 0
n_order x y = IsTrue (n_test x y)

abbrev four : List ℕ
four = 0 ∷ 1 ∷ 2 ∷ 3 ∷ []

-- chains to a member and from it join all
hub : (link : ℕ → ℕ → Type 0) (X : List ℕ) (h : ℕ) → ((x : ℕ) → Contains X x → IsChain link X x h × IsChain link X h x) → IsLinked link X
hub link X h f x y m n = joined (f x m).0 (f y n).1
  where
    joined : {a b c : ℕ} → IsChain link X a b → IsChain link X b c → IsChain link X a c
    joined p (here k) = p
    joined p (on q l k) = on (joined p q) l k

at_0 : Contains four 0
at_0 = (0, omega arith, refl)

at_1 : Contains four 1
at_1 = (1, omega arith, refl)

at_2 : Contains four 2
at_2 = (2, omega arith, refl)

at_3 : Contains four 3
at_3 = (3, omega arith, refl)

free_pair : (x y : ℕ) → x ≢ y → n_test x y ≡ false → n_test y x ≡ false → AreUnordered n_order x y
free_pair x y n f g = (n, (λ b. (cc)), (λ b. (cc)))

-- 1, 0, 3, 2 in a row where there is no order
n_unordered : IsLinked (AreUnordered n_order) four
n_unordered = hub (AreUnordered n_order) four 0 (each (λ x. IsChain (AreUnordered n_order) four x 0 × IsChain (AreUnordered n_order) four 0 x) four (
  (here at_0, here at_0),
  (
    (on (here at_1) one_zero at_0, on (here at_0) zero_one at_1),
    (
      (on (on (here at_2) two_three at_3) three_zero at_0, on (on (here at_0) zero_three at_3) three_two at_2),
      ((on (here at_3) three_zero at_0, on (here at_0) zero_three at_3), tt),
    ),
  ),
))
  where
    zero_one : AreUnordered n_order 0 1
    zero_one = free_pair 0 1 (λ e. omega arith) refl refl

    one_zero : AreUnordered n_order 1 0
    one_zero = free_pair 1 0 (λ e. omega arith) refl refl

    zero_three : AreUnordered n_order 0 3
    zero_three = free_pair 0 3 (λ e. omega arith) refl refl

    three_zero : AreUnordered n_order 3 0
    three_zero = free_pair 3 0 (λ e. omega arith) refl refl

    two_three : AreUnordered n_order 2 3
    two_three = free_pair 2 3 (λ e. omega arith) refl refl

    three_two : AreUnordered n_order 3 2
    three_two = free_pair 3 2 (λ e. omega arith) refl refl

-- 0, 2, 1, 3 in a row where there is one
n_ordered : IsLinked (AreOrdered n_order) four
n_ordered = hub (AreOrdered n_order) four 0 (each (λ x. IsChain (AreOrdered n_order) four x 0 × IsChain (AreOrdered n_order) four 0 x) four (
  (here at_0, here at_0),
  (
    (on (on (here at_1) (inl refl) at_2) (inr refl) at_0, on (on (here at_0) (inl refl) at_2) (inr refl) at_1),
    (
      (on (here at_2) (inr refl) at_0, on (here at_0) (inl refl) at_2),
      ((on (on (on (here at_3) (inr refl) at_1) (inl refl) at_2) (inr refl) at_0, on (on (on (here at_0) (inl refl) at_2) (inr refl) at_1) (inl refl) at_3), tt),
    ),
  ),
))

not_before : (x y : ℕ) → n_test x y ≡ false → n_order x y → ⊥
not_before x y f b = cc

-- a member of a list is free where no member is before it
free : (X : List ℕ) (x : ℕ) → Contains X x → AllByRecursion (λ y. n_test y x ≡ false) X → IsFree n_order X x
free X x m a = record { member = m; first = λ y n b. not_before y x (each (λ y. n_test y x ≡ false) X a y n) b }

-- they are a tangle, which takes the least free class each time
pub n_of_four : IsLayout n_order 0 (0 ∷ 1 ∷ 2 ∷ 3 ∷ []) (Tangle (0 ∷ 1 ∷ 2 ∷ 3 ∷ []))
n_of_four = (
  omega arith,
  inr (omega arith, n_unordered, n_ordered),
  (
    free (0 ∷ 1 ∷ 2 ∷ 3 ∷ []) 0 at_0 (refl, (refl, (refl, (refl, tt)))),
    (λ y f. omega arith),
    (
      free (1 ∷ 2 ∷ 3 ∷ []) 1 (0, omega arith, refl) (refl, (refl, (refl, tt))),
      (λ y f. each (λ y. 1 ≤ y) (1 ∷ 2 ∷ 3 ∷ []) (omega arith, (omega arith, (omega arith, tt))) y f.member),
      (
        free (2 ∷ 3 ∷ []) 2 (0, omega arith, refl) (refl, (refl, tt)),
        (λ y f. each (λ y. 2 ≤ y) (2 ∷ 3 ∷ []) (omega arith, (omega arith, tt)) y f.member),
        (free (3 ∷ []) 3 (0, omega arith, refl) (refl, tt), (λ y f. each (λ y. 3 ≤ y) (3 ∷ []) (omega arith, tt) y f.member), refl),
      ),
    ),
  ),
)
