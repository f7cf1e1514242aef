-- How many of the listed classes are before a class.
use Rattle.std.proofs.Common.{◌≡◌, ℕ, ◌+◌, ◌<◌, ◌≤◌, Bool, true, false, List, [], ◌∷◌, ◌++◌, length, get_or, map, refl, ◌∙◌, ap, subst, arith, inl, inr, take, length-take, add-one}
use Rattle.std.proofs.Math.Seq.{take-suc}
use Rattle.std.specs.Prelude.{All, Contains, IsTrue}
use Rattle.std.specs.List.{range_with_len}
use Rattle.std.specs.Ordering.{nat_cmp}
use Rattle.std.specs.List.Sorted.{IsStrictlySortedBy}
use Rattle.std.proofs.lemmas.Bool.{cases_Bool, false_from_ne_true}
use Rattle.std.proofs.lemmas.List.FromFn.{length-range_with_len, get_or-range_with_len, get_or-map-range_with_len}
use Rattle.std.proofs.lemmas.List.Elements.{Contains-get_or}
use Rattle.std.proofs.lemmas.Map.Keys.{sorted_from_strictly_increasing}
use Rattle.pj_bits.specs.Matrix.{bit, size as size_of}
use Rattle.pj_change.specs.Layout.{IsStrictOrder}
use Rattle.pj_change.proofs.Members.{uncons, first_member, later_member, no_member}
use Rattle.pj_layout.specs.Counts.{digit, predecessors}
use Rattle.pj_layout.specs.Orders.{Before}
use Rattle.pj_layout.proofs.Digits.{zero_digit}

pub digit_most : (b : Bool) → digit b ≤ 1
digit_most true = omega arith
digit_most false = omega arith

module _ (before : List (List Bool)) where
  pub one_more : (xs : List ℕ) (x class : ℕ) → predecessors before (xs ++ x ∷ []) class ≡ predecessors before xs class + digit (bit before x class)
  one_more [] x class = omega arith
  one_more (y ∷ ys) x class = (let rest = one_more ys x class in omega arith)

  pub no_more_than_listed : (xs : List ℕ) (class : ℕ) → predecessors before xs class ≤ length xs
  no_more_than_listed [] class = omega arith
  no_more_than_listed (x ∷ xs) class = (let rest = no_more_than_listed xs class in let one = digit_most (bit before x class) in omega arith)

  -- with none before it the count is 0, and only so
  pub none_counted : (xs : List ℕ) (class : ℕ) → ((x : ℕ) → Contains xs x → bit before x class ≡ false) → predecessors before xs class ≡ 0
  none_counted [] class none = refl
  none_counted (x ∷ xs) class none = (let first : bit before x class ≡ false = none x (first_member x xs) in let rest = none_counted xs class (λ y m. none y (later_member x xs y m)) in rw first (omega arith))

  pub none_before : (xs : List ℕ) (class : ℕ) → predecessors before xs class ≡ 0 → (x : ℕ) → Contains xs x → bit before x class ≡ false
  none_before [] class e x m = absurd (no_member x m)
  none_before (y ∷ ys) class e x m = elim (uncons y ys x m) [
    | inl same ↦ subst (λ z. bit before z class ≡ false) same (zero_digit (bit before y class) (omega arith))
    | inr later ↦ none_before ys class (omega arith) x later
  ]

  -- what is after x has more before it than x has
  module _ (x y : ℕ) (further : (z : ℕ) → bit before z x ≡ true → bit before z y ≡ true) where
    each : (z : ℕ) → digit (bit before z x) ≤ digit (bit before z y)
    each z = elim (cases_Bool (bit before z x)) [
      | inl is ↦ rw (is, further z is) (omega arith)
      | inr is ↦ rw is (omega arith)
    ]

    no_fewer : (xs : List ℕ) → predecessors before xs x ≤ predecessors before xs y
    no_fewer [] = omega arith
    no_fewer (z ∷ zs) = (let rest = no_fewer zs in let one = each z in omega arith)

    pub fewer : bit before x x ≡ false → bit before x y ≡ true → (xs : List ℕ) → Contains xs x → predecessors before xs x < predecessors before xs y
    fewer loose tied [] m = absurd (no_member x m)
    fewer loose tied (z ∷ zs) m = elim (uncons z zs x m) [
      | inl same ↦ (let rest = no_fewer zs in rw (same, loose, tied) (omega arith))
      | inr later ↦ (let rest = fewer loose tied zs later in let one = each z in omega arith)
    ]

  pub front_counted : (xs : List ℕ) (n class : ℕ) → n < length xs → predecessors before (take (n + 1) xs) class ≡ predecessors before (take n xs) class + digit (bit before (get_or xs n 0) class)
  front_counted xs n class inside =
      let more : take (n + 1) xs ≡ take n xs ++ get_or xs n 0 ∷ [] = rw add-one (take-suc xs n 0 inside) in
      ap (λ ys. predecessors before ys class) more ∙ one_more (take n xs) (get_or xs n 0) class

  pub front_bound : (xs : List ℕ) (n class : ℕ) → predecessors before (take n xs) class ≤ n
  front_bound xs n class = (let most = no_more_than_listed (take n xs) class in omega (arith, length-take n xs))

-- the counts of what is before each class rise along a strict order
pub ranks_rise : (before : List (List Bool)) → IsStrictOrder (Before before) → (ranks : List ℕ) →
    ranks ≡ map (predecessors before (range_with_len 0 (size_of before))) (range_with_len 0 (size_of before)) →
    ((x y : ℕ) → bit before x y ≡ true → (x < size_of before) × (y < size_of before)) →
    (x y : ℕ) → bit before x y ≡ true → get_or ranks x 0 < get_or ranks y 0
ranks_rise before strict ranks are inside x y tied =
    let n = size_of before in
    let in_x = (inside x y tied).0 in
    let in_y = (inside x y tied).1 in
    let rank : (z : ℕ) → z < size_of before → get_or ranks z 0 ≡ predecessors before (range_with_len 0 (size_of before)) z =
    λ z h. ap (λ l. get_or l z 0) are ∙ get_or-map-range_with_len (predecessors before (range_with_len 0 (size_of before))) 0 (size_of before) z z 0 h (omega arith) in
    let further : (z : ℕ) → bit before z x ≡ true → bit before z y ≡ true = λ z h. holds (bit before z y) (strict.transitive z x y (is_true h) (is_true tied)) in
    let loose : bit before x x ≡ false = false_from_ne_true (bit before x x) (λ h. strict.irreflexive x (is_true h)) in
    let member : Contains (range_with_len 0 (size_of before)) x = subst (λ z. Contains (range_with_len 0 (size_of before)) z) (get_or-range_with_len 0 (size_of before) x 0 in_x ∙ (let e : 0 + x ≡ x = omega arith in e))
    (Contains-get_or (range_with_len 0 (size_of before)) x 0 (omega (arith, length-range_with_len 0 (size_of before)))) in
    rw (rank x in_x, rank y in_y) (fewer before x y further loose tied (range_with_len 0 (size_of before)) member)
  where
    is_true : {b : Bool} → b ≡ true → IsTrue b
    is_true e = e

    holds : (b : Bool) → IsTrue b → b ≡ true
    holds b h = h

pub all_below : (n : ℕ) → All (λ x. x < n) (range_with_len 0 n)
all_below n k d h = (let e = get_or-range_with_len 0 n k d (omega (arith, length-range_with_len 0 n)) in rw e (omega (arith, length-range_with_len 0 n)))

-- ---- all classes below a number

pub range_sorted : (n : ℕ) → IsStrictlySortedBy nat_cmp (range_with_len 0 n)
range_sorted n = sorted_from_strictly_increasing (range_with_len 0 n) (λ k below.
    let inside : k + 1 < n = omega (arith, below, length-range_with_len 0 n) in
    let low = get_or-range_with_len 0 n k 0 (omega (arith, inside)) in
    let high = get_or-range_with_len 0 n (k + 1) 0 inside in
    omega (arith, low, high))
