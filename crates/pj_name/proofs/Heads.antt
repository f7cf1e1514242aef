-- The first bytes of two lists, as numbers, are in the order of the lists.
use Rattle.std.proofs.Common.{◌≡◌, ℕ, zero, suc, ◌+◌, ◌*◌, ◌<◌, ◌≤◌, List, [], ◌∷◌, length, take, refl, sym, arith}
use Rattle.std.proofs.lemmas.Bool.Decides.{nat_tests}
use Rattle.std.specs.Prelude.{slice_index}
use Rattle.std.specs.Cmp.Lexicographic.{slice_cmp}
use Rattle.std.specs.Ordering.{nat_cmp, ordering_then}
use Rattle.std.specs.declared.cmp.Ordering.{Ordering}
use Rattle.std.specs.declared.cmp.Ordering.TheVariants.{Less, Equal, Greater}
use Rattle.pj_name.specs.Order.{spelt}

-- each member is a byte
abbrev pub AreBytes : List ℕ → Type 0
AreBytes xs = (i : ℕ) → slice_index xs i < 256

-- what is less before some bytes is less behind them, whatever bytes they are
less_stays : (k n m : ℕ) (xs ys : List ℕ) → n < m → k ≤ length xs → k ≤ length ys → AreBytes xs → spelt n (take k xs) < spelt m (take k ys)
less_stays zero n m xs ys l a b bytes = l
less_stays (suc k) n m [] ys l a b bytes = absurd (omega arith)
less_stays (suc k) n m (x ∷ xs) [] l a b bytes = absurd (omega arith)
less_stays (suc k) n m (x ∷ xs) (y ∷ ys) l a b bytes =
    let small : x < 256 = bytes 0 in
    less_stays k (n * 256 + x) (m * 256 + y) xs ys (omega arith) (omega arith) (omega arith) (λ i. bytes (suc i))

less_is : (m n : ℕ) → m < n → nat_cmp m n ≡ Less
less_is m n h = grind (arith, nat_tests)

greater_is : (m n : ℕ) → n < m → nat_cmp m n ≡ Greater
greater_is m n h = grind (arith, nat_tests)

-- numbers that differ compare as the lists do
pub heads_decide : (k n : ℕ) (xs ys : List ℕ) → k ≤ length xs → k ≤ length ys → AreBytes xs → AreBytes ys → (spelt n (take k xs) ≡ spelt n (take k ys) → ⊥) → slice_cmp nat_cmp xs ys ≡ nat_cmp (spelt n (take k xs)) (spelt n (take k ys))
heads_decide zero n xs ys a b small_xs small_ys differ = absurd (differ refl)
heads_decide (suc k) n [] ys a b small_xs small_ys differ = absurd (omega arith)
heads_decide (suc k) n (x ∷ xs) [] a b small_xs small_ys differ = absurd (omega arith)
heads_decide (suc k) n (x ∷ xs) (y ∷ ys) a b small_xs small_ys differ = by (λ m. heads_decide k m xs ys (omega arith) (omega arith) (λ i. small_xs (suc i)) (λ i. small_ys (suc i))) (nat_cmp x y) refl
  where
    at_x : ℕ
    at_x = spelt (n * 256 + x) (take k xs)

    at_y : ℕ
    at_y = spelt (n * 256 + y) (take k ys)

    by : ((m : ℕ) → (spelt m (take k xs) ≡ spelt m (take k ys) → ⊥) → slice_cmp nat_cmp xs ys ≡ nat_cmp (spelt m (take k xs)) (spelt m (take k ys)))
        → (o : Ordering) → nat_cmp x y ≡ o → ordering_then (nat_cmp x y) (slice_cmp nat_cmp xs ys) ≡ nat_cmp at_x at_y
    by rest Less is =
        let below : x < y = grind (arith, nat_tests) in
        rw is (sym (less_is at_x at_y (less_stays k (n * 256 + x) (n * 256 + y) xs ys (omega arith) (omega arith) (omega arith) (λ i. small_xs (suc i)))))
    by rest Greater is =
        let above : y < x = grind (arith, nat_tests) in
        rw is (sym (greater_is at_x at_y (less_stays k (n * 256 + y) (n * 256 + x) ys xs (omega arith) (omega arith) (omega arith) (λ i. small_ys (suc i)))))
    by rest Equal is =
        let same : x ≡ y = grind (arith, nat_tests) in
        rw (is, same) (rest (n * 256 + y) (rw same at differ))
