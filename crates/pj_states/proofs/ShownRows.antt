-- A map of shared values, seen as the map of the values.
use Rattle.std.proofs.Common.{◌≡◌, ap, refl, List, [], ◌∷◌, map, None}
use Rattle.std.specs.Option.{option_map}
use Rattle.std.specs.declared.cmp.Ordering.{Ordering}
use Rattle.std.specs.declared.cmp.Ordering.TheVariants.{Less, Equal, Greater}
use Rattle.pj_pmap.specs.Pairs.{AllAbove, IsRising, value_at, with_pair, without_key}

module _ {K A B : Type 0} (cmp : K → K → Ordering) (f : A → B) where
  abbrev shown : List (K × A) → List (K × B)
  shown es = map (λ e. (e.0, f e.1)) es

  pub value_shown : (k : K) (es : List (K × A)) → value_at cmp k (shown es) ≡ option_map f (value_at cmp k es)
  value_shown k [] = refl
  value_shown k (e ∷ es) = by (value_shown k es) (cmp k e.0) refl
    where
      by : value_at cmp k (shown es) ≡ option_map f (value_at cmp k es) → (o : Ordering) → cmp k e.0 ≡ o → value_at cmp k (shown (e ∷ es)) ≡ option_map f (value_at cmp k (e ∷ es))
      by rest Less h = rw h rest
      by rest Equal h = rw h refl
      by rest Greater h = rw h rest

  pub with_shown : (k : K) (a : A) (es : List (K × A)) → shown (with_pair cmp k a es) ≡ with_pair cmp k (f a) (shown es)
  with_shown k a [] = refl
  with_shown k a (e ∷ es) = by (with_shown k a es) (cmp k e.0) refl
    where
      by : shown (with_pair cmp k a es) ≡ with_pair cmp k (f a) (shown es) → (o : Ordering) → cmp k e.0 ≡ o → shown (with_pair cmp k a (e ∷ es)) ≡ with_pair cmp k (f a) (shown (e ∷ es))
      by rest Less h = rw h refl
      by rest Equal h = rw h refl
      by rest Greater h = rw h (ap (λ l. (e.0, f e.1) ∷ l) rest)

  pub without_shown : (k : K) (es : List (K × A)) → shown (without_key cmp k es) ≡ without_key cmp k (shown es)
  without_shown k [] = refl
  without_shown k (e ∷ es) = by (without_shown k es) (cmp k e.0) refl
    where
      by : shown (without_key cmp k es) ≡ without_key cmp k (shown es) → (o : Ordering) → cmp k e.0 ≡ o → shown (without_key cmp k (e ∷ es)) ≡ without_key cmp k (shown (e ∷ es))
      by rest Less h = rw h refl
      by rest Equal h = rw h refl
      by rest Greater h = rw h (ap (λ l. (e.0, f e.1) ∷ l) rest)

  above_shown : (k : K) (es : List (K × A)) → AllAbove cmp k es → AllAbove cmp k (shown es)
  above_shown k [] h = tt
  above_shown k (e ∷ es) h = (h.0, above_shown k es h.1)

  pub rising_shown : (es : List (K × A)) → IsRising cmp es → IsRising cmp (shown es)
  rising_shown [] h = tt
  rising_shown (e ∷ es) h = (above_shown e.0 es h.0, rising_shown es h.1)

module _ {K V : Type 0} (cmp : K → K → Ordering) where
  -- what is not there may be taken away
  pub without_none : (k : K) (es : List (K × V)) → value_at cmp k es ≡ None → without_key cmp k es ≡ es
  without_none k [] h = refl
  without_none k (e ∷ es) h = by (without_none k es) (cmp k e.0) refl
    where
      by : (value_at cmp k es ≡ None → without_key cmp k es ≡ es) → (o : Ordering) → cmp k e.0 ≡ o → without_key cmp k (e ∷ es) ≡ e ∷ es
      by rest Less f = rw f refl
      by rest Equal f = absurd (let g = rw f at h in cc)
      by rest Greater f = rw f (ap (λ l. e ∷ l) (rest (rw f at h)))
