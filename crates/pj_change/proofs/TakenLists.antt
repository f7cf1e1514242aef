-- A list from the front: one more that is taken, and the place where it stands.
use Rattle.std.proofs.Common.{◌≡◌, ℕ, ◌+◌, ◌<◌, List, [], ◌∷◌, ◌++◌, sym, ◌∙◌, ap, take, drop, suc, length, get_or}
use Rattle.std.proofs.Math.Seq.{drop-cons}
use Rattle.std.proofs.lemmas.List.{take_more, take-append-drop}

module _ {X : Type 0} (xs : List X) (i : ℕ) (x : X) (low : i < length xs) (is : x ≡ get_or xs i x) where
  pub taken_more : take (i + 1) xs ≡ take i xs ++ x ∷ []
  taken_more = take_more xs i x low ∙ ap (λ z. take i xs ++ z ∷ []) (sym is)

  pub taken_split : xs ≡ take i xs ++ x ∷ drop (suc i) xs
  taken_split = sym (take-append-drop i xs) ∙ ap (λ l. take i xs ++ l) (drop-cons xs i x low ∙ ap (λ z. z ∷ drop (suc i) xs) (sym is))
