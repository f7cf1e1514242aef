-- Lists in which each member is below the next, by a test.
use Rattle.std.proofs.Common.{◌≡◌, ℕ, zero, suc, ◌+◌, ◌<◌, Bool, true, false, List, [], ◌∷◌, length, get_or, refl, sym, ◌∙◌, ap, arith, add-one}
use Rattle.std.specs.List.{IsAllAdjacentAnswer, AllAdjacentBelow}
use Rattle.std.proofs.lemmas.Bool.{and_right, and_parts}
use Rattle.pj_change.specs.Rules.{rising}

get_next : {X : Type 0} (x : X) (xs : List X) (k : ℕ) (d : X) → get_or xs k d ≡ get_or (x ∷ xs) (k + 1) d
get_next x xs k d = rw add-one refl

get_later : {X : Type 0} (x : X) (xs : List X) (k : ℕ) (d : X) → get_or xs (k + 1) d ≡ get_or (x ∷ xs) (suc k + 1) d
get_later x xs k d = rw (add-one, add-one) refl

module _ {X : Type 0} (below : X → X → Bool) where
  -- so are the later ones
  pub rising_rest : (x : X) (xs : List X) → rising below (x ∷ xs) ≡ true → rising below xs ≡ true
  unfolding rising
  rising_rest x [] h = refl
  rising_rest x (y ∷ ys) h = (and_parts (below x y) (rising below (y ∷ ys)) h).1

  -- each member is below the next
  pub rising_yes : (xs : List X) → AllAdjacentBelow (λ x y. true ≡ below x y) xs (length xs) → rising below xs ≡ true
  unfolding rising
  rising_yes [] h = refl
  rising_yes (x ∷ []) h = refl
  rising_yes (x ∷ y ∷ xs) h =
      let first : true ≡ below x y = h 0 x (omega arith) in
      let rest : AllAdjacentBelow (λ a b. true ≡ below a b) (y ∷ xs) (length (y ∷ xs)) =
      λ k d low. let here : true ≡ below (get_or (x ∷ y ∷ xs) (k + 1) d) (get_or (x ∷ y ∷ xs) (k + 1 + 1) d) = h (k + 1) d (omega arith) in
      here ∙ sym (ap (λ a. below a (get_or (y ∷ xs) (k + 1) d)) (get_next x (y ∷ xs) k d) ∙ ap (below (get_or (x ∷ y ∷ xs) (k + 1) d)) (get_next x (y ∷ xs) (k + 1) d)) in
      rw (← first) (rising_yes (y ∷ xs) rest)

  -- one member is not below the next
  pub rising_no : (xs : List X) (k : ℕ) (d : X) → k + 1 < length xs → below (get_or xs k d) (get_or xs (k + 1) d) ≡ false → rising below xs ≡ false
  unfolding rising
  rising_no [] k d low h = absurd (omega arith)
  rising_no (x ∷ []) k d low h = absurd (omega arith)
  rising_no (x ∷ y ∷ xs) zero d low h = rw h refl
  rising_no (x ∷ y ∷ xs) (suc k) d low h =
      and_right (below x y) (rising below (y ∷ xs)) (rising_no (y ∷ xs) k d (omega arith) (ap (below (get_or (y ∷ xs) k d)) (get_later x (y ∷ xs) k d) ∙ h))

  -- what the library's test for a sorted slice answers
  pub rising_answer : (xs : List X) (answer : Bool) → IsAllAdjacentAnswer (λ x y b. b ≡ below x y) xs answer → answer ≡ rising below xs
  rising_answer xs true h = sym (rising_yes xs h)
  rising_answer [] false (k, low, h) = absurd (omega arith)
  rising_answer (x ∷ xs) false (k, low, h) = sym (rising_no (x ∷ xs) k x low (sym (h x)))
