-- A test of each two members of a list, one member after another.
use Rattle.std.proofs.Common.{◌≡◌, ℕ, zero, suc, ◌+◌, ◌<◌, Bool, true, false, ◌&&◌, List, [], ◌∷◌, length, take, get_or, refl, sym, ◌∙◌, ap, arith}
use Rattle.std.specs.List.{list_all}
use Rattle.std.proofs.lemmas.Bool.{and_parts, and_from, false≢true}
use Rattle.std.proofs.lemmas.Bool.Decides.{nat_tests}
use Rattle.std.proofs.lemmas.List.Folds.{list_all_more}
use Rattle.pj_change.specs.declared.hunk.Hunk.{Hunk}
use Rattle.pj_change.specs.declared.hunk.Hunk.TheVariants.{Delete, Revive}
use Rattle.pj_change.specs.Rules.{apart, ranges_apart, each_pair}
use Rattle.pj_change.specs.Reach.{is_up_to, ends_by, begins_at}

and_shuffle : (a b c d : Bool) → (a && b && (c && d)) ≡ (a && c && (b && d))
and_shuffle true true c d = refl
and_shuffle true false true d = refl
and_shuffle true false false d = refl
and_shuffle false b c d = refl

not_true : (b : Bool) → (b ≡ true → ⊥) → false ≡ b
not_true true h = absurd (h refl)
not_true false h = refl

module _ {X : Type 0} where
  list_all-take : (p : X → Bool) (xs : List X) (i : ℕ) → list_all p xs ≡ true → list_all p (take i xs) ≡ true
  list_all-take p xs zero h = refl
  list_all-take p [] (suc i) h = refl
  list_all-take p (x ∷ xs) (suc i) h = let both = and_parts (p x) (list_all p xs) h in and_from _ _ both.0 (list_all-take p xs i both.1)

  list_all_from : (p q : X → Bool) (xs : List X) → ((x : X) → p x ≡ true → q x ≡ true) → list_all p xs ≡ true → list_all q xs ≡ true
  list_all_from p q [] f h = refl
  list_all_from p q (x ∷ xs) f h = let both = and_parts (p x) (list_all p xs) h in and_from _ _ (f x both.0) (list_all_from p q xs f both.1)

  -- one member more
  each_pair_more : (test : X → X → Bool) (xs : List X) (i : ℕ) (d : X) → i < length xs →
      each_pair test (take (i + 1) xs) ≡ (each_pair test (take i xs) && list_all (λ x. test x (get_or xs i d)) (take i xs))
  unfolding each_pair
  each_pair_more test [] i d low = absurd (omega arith)
  each_pair_more test (x ∷ xs) zero d low = refl
  each_pair_more test (x ∷ xs) (suc i) d low =
      let next : suc i + 1 ≡ suc (i + 1) = omega arith in
      let low' : i < length xs = omega arith in
      ap (λ n. each_pair test (take n (x ∷ xs))) next
      ∙ ap (λ b. b && each_pair test (take (i + 1) xs)) (list_all_more (test x) xs i d low')
      ∙ ap (λ b. list_all (test x) (take i xs) && test x (get_or xs i d) && b) (each_pair_more test xs i d low')
      ∙ and_shuffle (list_all (test x) (take i xs)) _ _ _

  -- the first members of a list that passes
  each_pair-take : (test : X → X → Bool) (xs : List X) (i : ℕ) → each_pair test xs ≡ true → each_pair test (take i xs) ≡ true
  unfolding each_pair
  each_pair-take test xs zero h = refl
  each_pair-take test [] (suc i) h = refl
  each_pair-take test (x ∷ xs) (suc i) h =
      let both = and_parts (list_all (test x) xs) (each_pair test xs) h in
      and_from _ _ (list_all-take (test x) xs i both.0) (each_pair-take test xs i both.1)

  -- the answer for one member more, where those before it pass
  pub each_pair_step : (test : X → X → Bool) (xs : List X) (i : ℕ) (x : X) (answer : Bool) → i < length xs → x ≡ get_or xs i x →
      each_pair test (take i xs) ≡ true → list_all (λ y. test y x) (take i xs) ≡ answer → each_pair test (take (i + 1) xs) ≡ answer
  each_pair_step test xs i x answer low is before said =
      each_pair_more test xs i x low
      ∙ ap (λ b. b && list_all (λ y. test y (get_or xs i x)) (take i xs)) before
      ∙ ap (λ z. list_all (λ y. test y z) (take i xs)) (sym is)
      ∙ said

  -- one member does not pass with an earlier one
  pub each_pair_stop : (test : X → X → Bool) (xs : List X) (i : ℕ) (x : X) → i < length xs → x ≡ get_or xs i x →
      each_pair test (take i xs) ≡ true → list_all (λ y. test y x) (take i xs) ≡ false → false ≡ each_pair test xs
  each_pair_stop test xs i x low is before said =
      not_true (each_pair test xs) (λ h. false≢true (sym (each_pair_step test xs i x false low is before said) ∙ each_pair-take test xs (i + 1) h))

-- ---- ranges

up_to_apart : (k a b l at m c d : ℕ) → is_up_to k b l at ≡ true → is_up_to l at m c ≡ true → ranges_apart k a b m c d ≡ true
up_to_apart k a b l at m c d g h = grind (arith, nat_tests)

-- a range that begins where the other one has ended
apart_by_reach : (l at : ℕ) (g h : Hunk) → ends_by l at g ≡ true → begins_at l at h ≡ true → apart g h ≡ true
apart_by_reach l at (Delete k a b by) (Delete m c d by') e s = up_to_apart k a b l at m c d e s
apart_by_reach l at (Delete k a b by) (Revive m c d by') e s = up_to_apart k a b l at m c d e s
apart_by_reach l at (Revive k a b by) (Delete m c d by') e s = up_to_apart k a b l at m c d e s
apart_by_reach l at (Revive k a b by) (Revive m c d by') e s = up_to_apart k a b l at m c d e s
apart_by_reach l at (Delete k a b by) h e s = refl
apart_by_reach l at g h e s = refl

-- a hunk behind the reach of others has no position in common with them
pub all_apart : (l at : ℕ) (hs : List Hunk) (h : Hunk) → list_all (ends_by l at) hs ≡ true → begins_at l at h ≡ true → list_all (λ g. apart g h) hs ≡ true
all_apart l at hs h e s = list_all_from (ends_by l at) (λ g. apart g h) hs (λ g by. apart_by_reach l at g h by s) e

-- the reach moves on over one hunk more
pub ends_by_step : (l at l' at' : ℕ) (hs : List Hunk) (i : ℕ) (h : Hunk) → i < length hs → h ≡ get_or hs i h → list_all (ends_by l at) (take i hs) ≡ true →
    ((g : Hunk) → ends_by l at g ≡ true → ends_by l' at' g ≡ true) → ends_by l' at' h ≡ true → list_all (ends_by l' at') (take (i + 1) hs) ≡ true
ends_by_step l at l' at' hs i h low is before on here =
    list_all_more (ends_by l' at') hs i h low
    ∙ and_from _ _ (list_all_from (ends_by l at) (ends_by l' at') (take i hs) on before) (ap (ends_by l' at') (sym is) ∙ here)
