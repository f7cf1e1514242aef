-- The element at an index, and the list round it.
use Rattle.std.proofs.Common.{◌≡◌, ℕ, zero, suc, ◌<◌, List, [], ◌∷◌, ◌++◌, length, get_or, take, drop, refl, sym, ap, ◌∙◌, arith}
use Rattle.std.proofs.Math.ListN.{take-append-drop}

-- an index within a list has an element
pub record IsFound {X : Type 0} (xs : List X) (i : ℕ) : Type 0 where
  pub item : X
  pub from : drop i xs ≡ item ∷ drop (suc i) xs
  pub upto : take (suc i) xs ≡ take i xs ++ item ∷ []
  pub read : (d : X) → get_or xs i d ≡ item

pub found_at : {X : Type 0} (xs : List X) (i : ℕ) → i < length xs → IsFound xs i
found_at [] i l = absurd (omega arith)
found_at (x ∷ xs) zero l = record { item = x; from = refl; upto = refl; read = λ d. refl }
found_at {X} (x ∷ xs) (suc i) l =
    let f : IsFound xs i = found_at xs i (omega arith) in
    record { item = f.item; from = f.from; upto = ap (λ (r : List X). x ∷ r) f.upto; read = f.read }

-- the list is what stands before, the element, and what stands after
pub around : {X : Type 0} (xs : List X) (i : ℕ) (f : IsFound xs i) → xs ≡ take i xs ++ f.item ∷ drop (suc i) xs
around xs i f = sym (take-append-drop i xs) ∙ ap (λ r. take i xs ++ r) f.from
