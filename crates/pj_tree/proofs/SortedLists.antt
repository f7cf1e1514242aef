-- Lists in order, by index, and the cuts that a search finds in them.
use Rattle.std.proofs.Common.{◌≡◌, ℕ, zero, suc, ◌<◌, ◌≤◌, Bool, true, false, List, [], ◌∷◌, length, get_or, take, drop, filter, refl, sym, ap, ◌∙◌, subst, inl, inr, ◌⊎◌, arith, Contains}
use Rattle.std.specs.List.{AllWithin}
use Rattle.std.specs.List.Sorted.{IsStrictlySortedBy, IsPartitionedBy}
use Rattle.std.specs.Cmp.{IsTotalOrder}
use Rattle.std.specs.Ordering.{is_lt}
use Rattle.std.specs.declared.cmp.Ordering.{Ordering}
use Rattle.std.specs.declared.cmp.Ordering.TheVariants.{Less}
use Rattle.std.proofs.lemmas.Cmp.{tied_itself}
use Rattle.std.proofs.lemmas.List.{get_or_default}
use Rattle.pj_change.proofs.Members.{each}
use Rattle.pj_change.proofs.OneCover.{less_is}

-- an element before a later one is less
pub sorted_at : {X : Type 0} (cmp : X → X → Ordering) (xs : List X) (i j : ℕ) (d : X) → IsStrictlySortedBy cmp xs → i < j → j < length xs → cmp (get_or xs i d) (get_or xs j d) ≡ Less
unfolding IsStrictlySortedBy
sorted_at cmp [] i j d s l m = absurd (omega arith)
sorted_at cmp (x ∷ xs) i zero d s l m = absurd (omega arith)
sorted_at {X} cmp (x ∷ xs) zero (suc j) d s l m = each (λ y. cmp x y ≡ Less) xs s.0 (get_or xs j d) (j, omega arith, get_or_default xs j (get_or xs j d) d (omega arith))
sorted_at cmp (x ∷ xs) (suc i) (suc j) d s l m = sorted_at cmp xs i j d s.1 (omega arith) (omega arith)

pub which : (a b : ℕ) → a ≤ b → (a < b) ⊎ (a ≡ b)
which zero zero h = inr refl
which zero (suc b) h = inl (omega arith)
which (suc a) zero h = absurd (omega arith)
which (suc a) (suc b) h = elim (which a b (omega arith)) [ inl l ↦ inl (omega arith) | inr e ↦ inr (ap suc e) ]

-- those that are less stand first
pub less_first : {X : Type 0} (cmp : X → X → Ordering) → IsTotalOrder cmp → (xs : List X) (x : X) → IsStrictlySortedBy cmp xs → IsPartitionedBy (λ y. is_lt (cmp y x)) xs
less_first cmp order xs x sorted i j d l m h = elim (which i j l) [
  | inl low ↦ ap is_lt (order.trans _ _ _ (sorted_at cmp xs i j d sorted low m) (less_is _ h))
  | inr e ↦ subst (λ k. is_lt (cmp (get_or xs k d) x) ≡ true) (sym e) h
]

-- the element that is there stands where those that are less end
pub found : {X : Type 0} (cmp : X → X → Ordering) (order : IsTotalOrder cmp) (xs : List X) (x : X) (k : ℕ) → IsStrictlySortedBy cmp xs → Contains xs x →
    AllWithin (λ y. is_lt (cmp y x) ≡ true) xs 0 k → AllWithin (λ y. is_lt (cmp y x) ≡ false) xs k (length xs) → k ≤ length xs →
    (k < length xs) × ((d : X) → get_or xs k d ≡ x)
found {X} cmp order xs x k sorted c below above within = by (lower c.0 k)
  where
    here : get_or xs c.0 x ≡ x
    here = c.2

    lower : (a b : ℕ) → (a < b) ⊎ ((b < a) ⊎ (a ≡ b))
    lower zero zero = inr (inr refl)
    lower zero (suc b) = inl (omega arith)
    lower (suc a) zero = inr (inl (omega arith))
    lower (suc a) (suc b) = elim (lower a b) [ inl l ↦ inl (omega arith) | inr r ↦ inr (elim r [ inl l ↦ inl (omega arith) | inr e ↦ inr (ap suc e) ]) ]

    itself : is_lt (cmp x x) ≡ false
    itself = ap is_lt (tied_itself order x)

    by : (c.0 < k) ⊎ ((k < c.0) ⊎ (c.0 ≡ k)) → (k < length xs) × ((d : X) → get_or xs k d ≡ x)
    by (inl l) = absurd (let h = below c.0 x (omega arith) l in let g : is_lt (cmp x x) ≡ true = subst (λ y. is_lt (cmp y x) ≡ true) here h in cc (g, itself))
    by (inr (inl l)) =
        let low : cmp (get_or xs k x) x ≡ Less = subst (λ y. cmp (get_or xs k x) y ≡ Less) here (sorted_at cmp xs k c.0 x sorted l c.1) in
        absurd (let h = above k x (omega arith) (omega (arith, c.1)) in let g = ap is_lt low in cc (g, h))
    by (inr (inr e)) =
        let inside : k < length xs = subst (λ n. n < length xs) e c.1 in
        (inside, λ d. get_or_default xs k d x inside ∙ subst (λ n. get_or xs n x ≡ x) e here)

-- ---- filters

-- those that pass stand first
pub filter_front : {X : Type 0} (p : X → Bool) (xs : List X) (n : ℕ) → AllWithin (λ x. p x ≡ true) xs 0 n → AllWithin (λ x. p x ≡ false) xs n (length xs) → n ≤ length xs → filter p xs ≡ take n xs
filter_front p [] zero low high within = refl
filter_front p [] (suc n) low high within = absurd (omega arith)
filter_front p (x ∷ xs) zero low high within =
    let f : p x ≡ false = high 0 x (omega arith) (omega arith) in
    rw f (filter_front p xs zero (λ k d l m. absurd (omega arith)) (λ k d l m. high (suc k) d (omega arith) (omega arith)) (omega arith) ∙ refl)
filter_front p (x ∷ xs) (suc n) low high within =
    let t : p x ≡ true = low 0 x (omega arith) (omega arith) in
    rw t (ap (λ l. x ∷ l) (filter_front p xs n (λ k d l m. low (suc k) d (omega arith) (omega arith)) (λ k d l m. high (suc k) d (omega arith) (omega arith)) (omega arith)))

-- none of the first passes
pub filter_back : {X : Type 0} (p : X → Bool) (xs : List X) (n : ℕ) → AllWithin (λ x. p x ≡ false) xs 0 n → n ≤ length xs → filter p xs ≡ filter p (drop n xs)
filter_back p xs zero low within = refl
filter_back p [] (suc n) low within = absurd (omega arith)
filter_back p (x ∷ xs) (suc n) low within =
    let f : p x ≡ false = low 0 x (omega arith) (omega arith) in
    rw f (filter_back p xs n (λ k d l m. low (suc k) d (omega arith) (omega arith)) (omega arith))
