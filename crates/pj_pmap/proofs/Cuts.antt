-- What each word says of a list that is cut in two, all keys of one part being above or below.
use Rattle.std.proofs.Common.{◌≡◌, List, [], ◌∷◌, ◌++◌, Option, Some, None, refl, ap}
use Rattle.std.specs.Ordering.{match_ordering}
use Rattle.std.specs.declared.cmp.Ordering.{Ordering}
use Rattle.std.specs.declared.cmp.Ordering.TheVariants.{Less, Equal, Greater}
use Rattle.pj_pmap.specs.Pairs.{AllAbove, AllBelow, value_at, floor_of, next_of, rest_after, with_pair, without_key, first_of, or_this, or_else}

module _ {K V : Type 0} (cmp : K → K → Ordering) where
  -- ---- a part whose keys are all above k comes last

  pub value-above : (k : K) (xs ys : List (K × V)) → AllAbove cmp k ys → value_at cmp k (xs ++ ys) ≡ value_at cmp k xs
  value-above k [] [] h = refl
  value-above k [] (y ∷ ys) h = rw (h.0) (value-above k [] ys h.1)
  value-above k (x ∷ xs) ys h = ap (λ (r : Option V). match_ordering (cmp k x.0) r (Some x.1) r) (value-above k xs ys h)

  pub floor-above : (k : K) (xs ys : List (K × V)) → AllAbove cmp k ys → floor_of cmp k (xs ++ ys) ≡ floor_of cmp k xs
  floor-above k [] [] h = refl
  floor-above k [] (y ∷ ys) h = rw (h.0) refl
  floor-above k (x ∷ xs) ys h = ap (λ (r : Option (K × V)). match_ordering (cmp k x.0) None (Some x) (Some (or_this r x))) (floor-above k xs ys h)

  pub next-above : (k : K) (xs ys : List (K × V)) → AllAbove cmp k ys → next_of cmp k (xs ++ ys) ≡ or_else (next_of cmp k xs) (first_of ys)
  next-above k [] [] h = refl
  next-above k [] (y ∷ ys) h = rw (h.0) refl
  next-above k (x ∷ xs) ys h = by (next-above k xs ys h) (cmp k x.0) refl
    where
      by : next_of cmp k (xs ++ ys) ≡ or_else (next_of cmp k xs) (first_of ys) → (c : Ordering) → cmp k x.0 ≡ c → next_of cmp k ((x ∷ xs) ++ ys) ≡ or_else (next_of cmp k (x ∷ xs)) (first_of ys)
      by rest Less e = rw e refl
      by rest Equal e = rw e rest
      by rest Greater e = rw e rest

  pub rest-above : (k : K) (es : List (K × V)) → AllAbove cmp k es → rest_after cmp k es ≡ es
  rest-above k [] h = refl
  rest-above k (e ∷ es) h = rw (h.0) refl

  pub rest-split : (k : K) (xs ys : List (K × V)) → AllAbove cmp k ys → rest_after cmp k (xs ++ ys) ≡ rest_after cmp k xs ++ ys
  rest-split k [] ys h = rest-above k ys h
  rest-split k (x ∷ xs) ys h = by (rest-split k xs ys h) (cmp k x.0) refl
    where
      by : rest_after cmp k (xs ++ ys) ≡ rest_after cmp k xs ++ ys → (c : Ordering) → cmp k x.0 ≡ c → rest_after cmp k ((x ∷ xs) ++ ys) ≡ rest_after cmp k (x ∷ xs) ++ ys
      by rest Less e = rw e refl
      by rest Equal e = rw e refl
      by rest Greater e = rw e rest

  pub with-above : (k : K) (v : V) (xs ys : List (K × V)) → AllAbove cmp k ys → with_pair cmp k v (xs ++ ys) ≡ with_pair cmp k v xs ++ ys
  with-above k v [] [] h = refl
  with-above k v [] (y ∷ ys) h = rw (h.0) refl
  with-above k v (x ∷ xs) ys h = by (with-above k v xs ys h) (cmp k x.0) refl
    where
      by : with_pair cmp k v (xs ++ ys) ≡ with_pair cmp k v xs ++ ys → (c : Ordering) → cmp k x.0 ≡ c → with_pair cmp k v ((x ∷ xs) ++ ys) ≡ with_pair cmp k v (x ∷ xs) ++ ys
      by rest Less e = rw e refl
      by rest Equal e = rw e refl
      by rest Greater e = rw e (ap (λ (r : List (K × V)). x ∷ r) rest)

  pub without-above : (k : K) (xs ys : List (K × V)) → AllAbove cmp k ys → without_key cmp k (xs ++ ys) ≡ without_key cmp k xs ++ ys
  without-above k [] [] h = refl
  without-above k [] (y ∷ ys) h = rw (h.0) refl
  without-above k (x ∷ xs) ys h = by (without-above k xs ys h) (cmp k x.0) refl
    where
      by : without_key cmp k (xs ++ ys) ≡ without_key cmp k xs ++ ys → (c : Ordering) → cmp k x.0 ≡ c → without_key cmp k ((x ∷ xs) ++ ys) ≡ without_key cmp k (x ∷ xs) ++ ys
      by rest Less e = rw e refl
      by rest Equal e = rw e refl
      by rest Greater e = rw e (ap (λ (r : List (K × V)). x ∷ r) rest)

  -- ---- a part whose keys are all below k comes first

  pub value-below : (k : K) (xs ys : List (K × V)) → AllBelow cmp k xs → value_at cmp k (xs ++ ys) ≡ value_at cmp k ys
  value-below k [] ys h = refl
  value-below k (x ∷ xs) ys h = rw (h.0) (value-below k xs ys h.1)

  pub floor-below : (k : K) (xs ys : List (K × V)) (p : K × V) → AllBelow cmp k xs → floor_of cmp k ys ≡ Some p → floor_of cmp k (xs ++ ys) ≡ Some p
  floor-below k [] ys p h e = e
  floor-below k (x ∷ xs) ys p h e = rw (h.0) (ap (λ (r : Option (K × V)). Some (or_this r x)) (floor-below k xs ys p h.1 e))

  pub rest-below : (k : K) (xs ys : List (K × V)) → AllBelow cmp k xs → rest_after cmp k (xs ++ ys) ≡ rest_after cmp k ys
  rest-below k [] ys h = refl
  rest-below k (x ∷ xs) ys h = rw (h.0) (rest-below k xs ys h.1)

  pub with-below : (k : K) (v : V) (xs ys : List (K × V)) → AllBelow cmp k xs → with_pair cmp k v (xs ++ ys) ≡ xs ++ with_pair cmp k v ys
  with-below k v [] ys h = refl
  with-below k v (x ∷ xs) ys h = rw (h.0) (ap (λ (r : List (K × V)). x ∷ r) (with-below k v xs ys h.1))

  pub without-below : (k : K) (xs ys : List (K × V)) → AllBelow cmp k xs → without_key cmp k (xs ++ ys) ≡ xs ++ without_key cmp k ys
  without-below k [] ys h = refl
  without-below k (x ∷ xs) ys h = rw (h.0) (ap (λ (r : List (K × V)). x ∷ r) (without-below k xs ys h.1))
