-- What is known, as a test.
use Rattle.std.proofs.Common.{◌≡◌, ℕ, Bool, true, false, refl, inl, inr, List, [], ◌∷◌, get_or, zero, suc, arith}
use Rattle.std.specs.Prelude.{AllPairs}
use Rattle.std.specs.declared.cmp.Ordering.{Ordering}
use Rattle.std.specs.declared.cmp.Ordering.TheVariants.{Less, Equal, Greater}
use Rattle.std.proofs.lemmas.List.Elements.{Contains-get_or}
use Rattle.std.specs.Cmp.Lexicographic.{bytes_decides}
use Rattle.std.specs.Str.{bytes_eq}
use Rattle.pj_change.proofs.Decided.{Known, known_as, known_test}
use Rattle.pj_change.proofs.Listings.{IsRelated}

-- whether it holds
pub holds : {A : Type 0} → Known A → Bool
holds (inl a) = true
holds (inr n) = false

-- what the test says holds
pub it_holds : {A : Type 0} (k : Known A) → holds k ≡ true → A
unfolding holds
it_holds (inl a) e = a
it_holds (inr n) e = absurd (cc)

-- and what holds the test says
pub so_holds : {A : Type 0} (k : Known A) → A → holds k ≡ true
unfolding holds
so_holds (inl a) b = refl
so_holds (inr n) b = absurd (n b)

-- whether bytes are equal
pub known_bytes : (a b : List ℕ) → Known (a ≡ b)
known_bytes a b = known_as (bytes_decides a b).0 (bytes_decides a b).1 (known_test (bytes_eq a b) true)

-- whether one thing is below another
pub known_below_by : (o : Ordering) → Known (o ≡ Less)
known_below_by Less = inl refl
known_below_by Equal = inr (λ e. cc)
known_below_by Greater = inr (λ e. cc)

-- what holds of each member with each later one holds of each pair
pub pairs_from : {X : Type 0} (R : X → X → Type 0) (xs : List X) → IsRelated R xs → AllPairs R xs
pairs_from R [] a i j d l h = absurd (omega (arith, h))
pairs_from R (x ∷ xs) a i zero d l h = absurd (omega (arith, l))
pairs_from R (x ∷ xs) a zero (suc j) d l h = a.0 (get_or xs j d) (Contains-get_or xs j d (omega (arith, h)))
pairs_from R (x ∷ xs) a (suc i) (suc j) d l h = pairs_from R xs a.1 i j d (omega (arith, l)) (omega (arith, h))
