-- Lists that rise, and their parts.
use Rattle.std.proofs.Common.{◌≡◌, true, List, [], ◌∷◌, ◌++◌, None, refl, ap, ◌∙◌}
use Rattle.std.specs.Cmp.{IsTotalOrder}
use Rattle.std.specs.Ordering.{is_lt}
use Rattle.std.specs.declared.cmp.Ordering.{Ordering}
use Rattle.std.specs.declared.cmp.Ordering.TheVariants.{Less, Equal, Greater}
use Rattle.pj_pmap.specs.Pairs.{AllAbove, AllBelow, IsRising, value_at, with_pair, without_key, starts_above}
use Rattle.pj_pmap.proofs.Order.{less_back}

module _ {K V : Type 0} (cmp : K → K → Ordering) where
  pub AllAbove-left : (k : K) (xs ys : List (K × V)) → AllAbove cmp k (xs ++ ys) → AllAbove cmp k xs
  AllAbove-left k [] ys h = tt
  AllAbove-left k (x ∷ xs) ys h = (h.0, AllAbove-left k xs ys h.1)

  pub AllAbove-right : (k : K) (xs ys : List (K × V)) → AllAbove cmp k (xs ++ ys) → AllAbove cmp k ys
  AllAbove-right k [] ys h = h
  AllAbove-right k (x ∷ xs) ys h = AllAbove-right k xs ys h.1

  pub AllBelow-left : (k : K) (xs ys : List (K × V)) → AllBelow cmp k (xs ++ ys) → AllBelow cmp k xs
  AllBelow-left k [] ys h = tt
  AllBelow-left k (x ∷ xs) ys h = (h.0, AllBelow-left k xs ys h.1)

  pub AllBelow-right : (k : K) (xs ys : List (K × V)) → AllBelow cmp k (xs ++ ys) → AllBelow cmp k ys
  AllBelow-right k [] ys h = h
  AllBelow-right k (x ∷ xs) ys h = AllBelow-right k xs ys h.1

  pub IsRising-left : (xs ys : List (K × V)) → IsRising cmp (xs ++ ys) → IsRising cmp xs
  IsRising-left [] ys h = tt
  IsRising-left (x ∷ xs) ys h = (AllAbove-left x.0 xs ys h.0, IsRising-left xs ys h.1)

  pub IsRising-right : (xs ys : List (K × V)) → IsRising cmp (xs ++ ys) → IsRising cmp ys
  IsRising-right [] ys h = h
  IsRising-right (x ∷ xs) ys h = IsRising-right xs ys h.1

  -- what is above k stays so in a list that has or lacks one more key above k
  pub AllAbove-with : (k q : K) (v : V) (es : List (K × V)) → cmp k q ≡ Less → AllAbove cmp k es → AllAbove cmp k (with_pair cmp q v es)
  AllAbove-with k q v [] h i = (h, tt)
  AllAbove-with k q v (e ∷ es) h i = by (AllAbove-with k q v es h i.1) (cmp q e.0) refl
    where
      by : AllAbove cmp k (with_pair cmp q v es) → (c : Ordering) → cmp q e.0 ≡ c → AllAbove cmp k (with_pair cmp q v (e ∷ es))
      by rest Less f = rw f (h, i)
      by rest Equal f = rw f (h, i.1)
      by rest Greater f = rw f (i.0, rest)

  pub AllAbove-without : (k q : K) (es : List (K × V)) → AllAbove cmp k es → AllAbove cmp k (without_key cmp q es)
  AllAbove-without k q [] i = tt
  AllAbove-without k q (e ∷ es) i = by (AllAbove-without k q es i.1) (cmp q e.0) refl
    where
      by : AllAbove cmp k (without_key cmp q es) → (c : Ordering) → cmp q e.0 ≡ c → AllAbove cmp k (without_key cmp q (e ∷ es))
      by rest Less f = rw f i
      by rest Equal f = rw f i.1
      by rest Greater f = rw f (i.0, rest)

  -- a key below all has no value
  pub value-none_above : (k : K) (es : List (K × V)) → AllAbove cmp k es → value_at cmp k es ≡ None
  value-none_above k [] h = refl
  value-none_above k (e ∷ es) h = rw (h.0) (value-none_above k es h.1)

  pub IsRising-without : (k : K) (es : List (K × V)) → IsRising cmp es → IsRising cmp (without_key cmp k es)
  IsRising-without k [] h = tt
  IsRising-without k (e ∷ es) h = by (IsRising-without k es h.1) (cmp k e.0) refl
    where
      by : IsRising cmp (without_key cmp k es) → (c : Ordering) → cmp k e.0 ≡ c → IsRising cmp (without_key cmp k (e ∷ es))
      by rest Less f = rw f h
      by rest Equal f = rw f h.1
      by rest Greater f = rw f (AllAbove-without e.0 k es h.0, rest)

  module _ (order : IsTotalOrder cmp) where
    -- what is above a key is above those below that key, and above those that tie with it
    pub AllAbove-less : (a b : K) (es : List (K × V)) → cmp a b ≡ Less → AllAbove cmp b es → AllAbove cmp a es
    AllAbove-less a b [] h i = tt
    AllAbove-less a b (e ∷ es) h i = (order.trans a b e.0 h i.0, AllAbove-less a b es h i.1)

    pub AllAbove-same : (a b : K) (es : List (K × V)) → cmp a b ≡ Equal → AllAbove cmp b es → AllAbove cmp a es
    AllAbove-same a b [] h i = tt
    AllAbove-same a b (e ∷ es) h i = (order.congr a b e.0 h ∙ i.0, AllAbove-same a b es h i.1)

    pub IsRising-with : (k : K) (v : V) (es : List (K × V)) → IsRising cmp es → IsRising cmp (with_pair cmp k v es)
    IsRising-with k v [] h = (tt, tt)
    IsRising-with k v (e ∷ es) h = by (IsRising-with k v es h.1) (cmp k e.0) refl
      where
        by : IsRising cmp (with_pair cmp k v es) → (c : Ordering) → cmp k e.0 ≡ c → IsRising cmp (with_pair cmp k v (e ∷ es))
        by rest Less f = rw f ((f, AllAbove-less k e.0 es f h.0), h)
        by rest Equal f = rw f (AllAbove-same k e.0 es f h.0, h.1)
        by rest Greater f = rw f (AllAbove-with e.0 k v es (less_back order k e.0 f) h.0, rest)

    -- a list that starts above k is all above k
    pub AllAbove-starts : (k : K) (es : List (K × V)) → IsRising cmp es → starts_above cmp k es ≡ true → AllAbove cmp k es
    AllAbove-starts k [] h s = tt
    AllAbove-starts k (e ∷ es) h s = by (cmp k e.0) refl
      where
        by : (c : Ordering) → cmp k e.0 ≡ c → AllAbove cmp k (e ∷ es)
        by Less f = (f, AllAbove-less k e.0 es f h.0)
        by Equal f = cc (ap is_lt f)
        by Greater f = cc (ap is_lt f)
