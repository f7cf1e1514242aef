-- A list that a loop gathers from the members of another.
use Rattle.std.proofs.Common.{◌≡◌, ◌∙◌, sym, ap, ℕ, ◌+◌, ◌<◌, List, ◌∷◌, [], ◌++◌, length, get_or, take, arith}
use Rattle.std.specs.Prelude.{flat_map}
use Rattle.std.proofs.lemmas.List.{take_more, take_all, flat_map_more}

module _ {X A : Type 0} (f : X → List A) (xs : List X) (i : ℕ) where
  -- what one member more gives
  pub gathered_more : (x d : X) → i < length xs → x ≡ get_or xs i d → (old before new : List A) → before ≡ old ++ flat_map f (take i xs) → new ≡ before ++ f x →
      new ≡ old ++ flat_map f (take (i + 1) xs)
  gathered_more x d low is old before new so_far push =
      push ∙ ap (λ b. b ++ f x) so_far ∙ flat_map_more f old (take i xs) x
      ∙ ap (λ l. old ++ flat_map f l) (ap (λ y. take i xs ++ y ∷ []) is ∙ sym (take_more xs i d low))

  -- what all of them give
  pub gathered_all : length xs ≡ i → (old new : List A) → new ≡ old ++ flat_map f (take i xs) → new ≡ old ++ flat_map f xs
  gathered_all all old new so_far = so_far ∙ ap (λ l. old ++ flat_map f l) (take_all i xs (omega arith))
