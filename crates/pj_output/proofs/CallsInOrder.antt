-- What calls give one after another, in the order of what they were called with.
use Rattle.std.proofs.Common.{◌≡◌, ◌∙◌, ℕ, zero, suc, ◌+◌, ◌<◌, List, [], ◌∷◌, ◌++◌, length, ap, get_or, take, Ok, refl, subst, sym, inl, inr, arith}
use Rattle.std.specs.Prelude.{Result, Err, Contains, IfOk}
use Rattle.std.specs.List.{AllZip}
use Rattle.std.specs.Fn.{Shared}
use Rattle.std.proofs.lemmas.List.{take_more}
use Rattle.std.proofs.lemmas.Slice.Zip.{all_zipped_more}
use denote.Ref.{Bor}
use Rattle.pj_output.specs.Gives.{Gives}
use Rattle.pj_change.proofs.Members.{uncons, no_member, first_member, later_member}

module _ {X Y : Type 0} (P : X → Y → Type 0) where
  -- what holds of two lists place by place holds at a place
  pub zipped_at : (xs : List X) (ys : List Y) (i : ℕ) (x : X) (y : Y) → AllZip P xs ys → i < length xs → P (get_or xs i x) (get_or ys i y)
  zipped_at [] ys i x y h low = absurd (omega (arith, low))
  zipped_at (z ∷ xs) [] i x y h low = absurd h
  zipped_at (z ∷ xs) (w ∷ ys) zero x y h low = h.0
  zipped_at (z ∷ xs) (w ∷ ys) (suc i) x y h low = zipped_at xs ys i x y h.1 (omega (arith, low))

  -- there are as many of each
  pub zipped_length : (xs : List X) (ys : List Y) → AllZip P xs ys → length xs ≡ length ys
  zipped_length [] [] h = refl
  zipped_length [] (w ∷ ys) h = absurd h
  zipped_length (z ∷ xs) [] h = absurd h
  zipped_length (z ∷ xs) (w ∷ ys) h = ap suc (zipped_length xs ys h.1)

  -- each thing of the one list has a partner in the other
  pub zipped_first : (xs : List X) (ys : List Y) → AllZip P xs ys → (x : X) → Contains xs x → (y : Y) × Contains ys y × P x y
  zipped_first [] ys h x m = absurd (no_member x m)
  zipped_first (z ∷ xs) [] h x m = absurd h
  zipped_first (z ∷ xs) (w ∷ ys) h x m = elim (uncons z xs x m) [
    | inl same ↦ (w, first_member w ys, subst (λ u. P u w) same h.0)
    | inr n ↦ (let r = zipped_first xs ys h.1 x n in (r.0, later_member w ys r.0 r.1, r.2))
  ]

  pub zipped_second : (xs : List X) (ys : List Y) → AllZip P xs ys → (y : Y) → Contains ys y → (x : X) × Contains xs x × P x y
  zipped_second xs [] h y m = absurd (no_member y m)
  zipped_second [] (w ∷ ys) h y m = absurd h
  zipped_second (z ∷ xs) (w ∷ ys) h y m = elim (uncons w ys y m) [
    | inl same ↦ (z, first_member z xs, subst (λ u. P z u) same h.0)
    | inr n ↦ (let r = zipped_second xs ys h.1 y n in (r.0, later_member z xs r.0 r.1, r.2))
  ]

  -- one more of the first things of a list
  pub zipped_more : (xs : List X) (ys new : List Y) (i : ℕ) (x : X) (y : Y) → i < length xs → x ≡ get_or xs i x → new ≡ ys ++ y ∷ [] → AllZip P (take i xs) ys → P x y → AllZip P (take (i + 1) xs) new
  zipped_more xs ys new i x y low is grown so_far one =
      let more : take (i + 1) xs ≡ take i xs ++ x ∷ [] = take_more xs i x low ∙ ap (λ z. take i xs ++ z ∷ []) (sym is) in
      subst (AllZip P (take (i + 1) xs)) (sym grown) (subst (λ zs. AllZip P zs (ys ++ y ∷ [])) (sym more) (all_zipped_more P (take i xs) ys x y so_far one))

module _ {F X Y E : Type 0} (g : Shared F (Bor X × Unit {0}) (Result Y E)) (f : F) (P : X → Y → Type 0) (each : (x : Bor X) (y : Y) → g.post f (x, tt) (Ok y) → P x.now y) where
  given_at : (x : X) (y : Y) → Gives g f x y → P x y
  given_at x y h = subst (λ z. P z y) h.shows (each h.shown y h.says.met)

  all_given : (xs : List X) (ys : List Y) → AllZip (Gives g f) xs ys → AllZip P xs ys
  all_given [] [] h = tt
  all_given [] (y ∷ ys) h = absurd h
  all_given (x ∷ xs) [] h = absurd h
  all_given (x ∷ xs) (y ∷ ys) h = (given_at x y h.0, all_given xs ys h.1)

  -- what calls gave has what each call gives
  pub given_each : {V : Type 0} (items : V → List Y) (xs : List X) (r : Result V E) → IfOk r (λ all. AllZip (Gives g f) xs (items all)) → IfOk r (λ all. AllZip P xs (items all))
  given_each items xs (Ok all) h = all_given xs (items all) h
  given_each items xs (Err e) h = tt
