-- The first member of a list that fails a test.
use Rattle.std.proofs.Common.{◌≡◌, ℕ, zero, suc, ◌+◌, ◌<◌, ◌≤◌, Bool, true, false, List, [], ◌∷◌, length, take, get_or, nat_lt, refl, sym, ap, ◌∙◌, arith}
use Rattle.std.specs.Prelude.{not, Some, None, position}
use Rattle.std.specs.List.{list_all, position_or_len}
use Rattle.std.proofs.lemmas.Bool.{and_parts, and_from, lt-ltb, le-ltb}
use Rattle.std.proofs.lemmas.Bool.Decides.{nat_tests}

module _ {X : Type 0} (test : X → Bool) where
  -- how many members pass before the first that fails
  abbrev passing : List X → ℕ
  passing = position_or_len (λ x. not (test x))

  passing_to : (xs : List X) (i : ℕ) (x : X) → i < length xs → x ≡ get_or xs i x → list_all test (take i xs) ≡ true → test x ≡ false → passing xs ≡ i
  passing_to [] i x low is before fails = absurd (omega arith)
  passing_to (y ∷ ys) zero x low is before fails = (let here : test y ≡ false = ap test (sym is) ∙ fails in rw here refl)
  passing_to (y ∷ ys) (suc i) x low is before fails =
      let both = and_parts (test y) (list_all test (take i ys)) before in
      let rest = passing_to ys i x (omega arith) is both.1 fails in
      rw both.0 (omega (arith, rest))

  passing_all : (xs : List X) → list_all test xs ≡ true → passing xs ≡ length xs
  passing_all [] all = refl
  passing_all (y ∷ ys) all =
      let both = and_parts (test y) (list_all test ys) all in
      let rest = passing_all ys both.1 in
      rw both.0 (omega (arith, rest))

  -- the member at i fails, and those before it pass
  pub first_fails : (xs : List X) (i : ℕ) (x : X) → i < length xs → x ≡ get_or xs i x → list_all test (take i xs) ≡ true → test x ≡ false →
      position (λ y. not (test y)) xs ≡ Some i
  first_fails xs i x low is before fails = rw (passing_to xs i x low is before fails, lt-ltb i (length xs) low) refl

  -- all pass
  pub none_fails : (xs : List X) → list_all test xs ≡ true → position (λ y. not (test y)) xs ≡ None
  none_fails xs all = rw (passing_all xs all, le-ltb (length xs) (length xs) (omega arith)) refl

  all_from : (xs : List X) → length xs ≤ passing xs → list_all test xs ≡ true
  all_from [] long = refl
  all_from (y ∷ ys) long = go (all_from ys) (test y) refl
    where
      go : (length ys ≤ passing ys → list_all test ys ≡ true) → (b : Bool) → test y ≡ b → list_all test (y ∷ ys) ≡ true
      go rest true is = and_from (test y) (list_all test ys) is (rest (let l : suc (length ys) ≤ 1 + passing ys = rw is at long in omega arith))
      go rest false is = absurd (let l : suc (length ys) ≤ 0 = rw is at long in omega arith)

  -- where no first member fails, all pass
  pub all_pass : (xs : List X) → position (λ y. not (test y)) xs ≡ None → list_all test xs ≡ true
  all_pass xs none = go (nat_lt (passing xs) (length xs)) refl
    where
      go : (b : Bool) → nat_lt (passing xs) (length xs) ≡ b → list_all test xs ≡ true
      go true is = absurd (let some : Some (passing xs) ≡ None = rw is at none in cc)
      go false is = all_from xs (grind (arith, nat_tests))
