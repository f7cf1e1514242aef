-- Lists of pairs that rise by key, which is what contracts see of a map.
use Rattle.std.specs.Prelude.{◌≡◌, ℕ, suc, ◌<◌, ◌≤◌, Bool, false, List, [], ◌∷◌, length, take, drop, Option, Some, None, slice_index_or}
use Rattle.std.specs.Ordering.{match_ordering, is_lt}
use Rattle.std.specs.declared.cmp.Ordering.{Ordering}
use Rattle.std.specs.declared.cmp.Ordering.TheVariants.{Less, Equal, Greater}

-- this one, or the other where there is none
abbrev pub or_this : {X : Type 0} → Option X → X → X
or_this None x = x
or_this (Some y) x = y

-- this one, or that one where there is none
abbrev pub or_else : {X : Type 0} → Option X → Option X → Option X
or_else None other = other
or_else (Some x) other = Some x

-- the first of a list
abbrev pub first_of : {X : Type 0} → List X → Option X
first_of [] = None
first_of (x ∷ xs) = Some x

-- the key of the first pair
abbrev pub least_of : {K V : Type 0} → List (K × V) → Option K
least_of [] = None
least_of (e ∷ es) = Some e.0

-- a pair as contracts see it: the key, and what is shown of the value
abbrev pub shown_pair : {K V : Type 0} → (V → V) → K × V → K × V
shown_pair shown p = (p.0, shown p.1)

module _ {K V : Type 0} (cmp : K → K → Ordering) where
  -- every key is above k
  abbrev pub AllAbove : K → List (K × V) → Type 0
  AllAbove k [] = Unit {0}
  AllAbove k (e ∷ es) = (cmp k e.0 ≡ Less) × AllAbove k es

  -- every key is below k
  abbrev pub AllBelow : K → List (K × V) → Type 0
  AllBelow k [] = Unit {0}
  AllBelow k (e ∷ es) = (cmp k e.0 ≡ Greater) × AllBelow k es

  -- each key is below all keys after it
  abbrev pub IsRising : List (K × V) → Type 0
  IsRising [] = Unit {0}
  IsRising (e ∷ es) = AllAbove e.0 es × IsRising es

  -- the value of the key
  abbrev pub value_at : K → List (K × V) → Option V
  value_at k [] = None
  value_at k (e ∷ es) = match_ordering (cmp k e.0) (value_at k es) (Some e.1) (value_at k es)

  -- the pair of the greatest key that is not above k
  abbrev pub floor_of : K → List (K × V) → Option (K × V)
  floor_of k [] = None
  floor_of k (e ∷ es) = match_ordering (cmp k e.0) None (Some e) (Some (or_this (floor_of k es) e))

  -- the pair of the least key above k
  abbrev pub next_of : K → List (K × V) → Option (K × V)
  next_of k [] = None
  next_of k (e ∷ es) = match_ordering (cmp k e.0) (Some e) (next_of k es) (next_of k es)

  -- the pairs whose keys are above k
  abbrev pub rest_after : K → List (K × V) → List (K × V)
  rest_after k [] = []
  rest_after k (e ∷ es) = match_ordering (cmp k e.0) (e ∷ es) es (rest_after k es)

  -- the list with this pair, in place of one with its key
  abbrev pub with_pair : K → V → List (K × V) → List (K × V)
  with_pair k v [] = (k, v) ∷ []
  with_pair k v (e ∷ es) = match_ordering (cmp k e.0) ((k, v) ∷ e ∷ es) ((k, v) ∷ es) (e ∷ with_pair k v es)

  -- the list without the pair of the key
  abbrev pub without_key : K → List (K × V) → List (K × V)
  without_key k [] = []
  without_key k (e ∷ es) = match_ordering (cmp k e.0) (e ∷ es) es (e ∷ without_key k es)

  -- the first key is above k
  abbrev pub starts_above : K → List (K × V) → Bool
  starts_above k [] = false
  starts_above k (e ∷ es) = is_lt (cmp k e.0)

  -- the pairs from start up to end are those of the key: one, or none where it would stand
  pub record IsPlace (k : K) (es : List (K × V)) (start end : ℕ) : Type 0 where
    pub ordered : start ≤ end
    pub within : end ≤ length es
    pub below : AllBelow k (take start es)
    pub above : AllAbove k (drop end es)
    pub one : start < end → end ≡ suc start
    pub same : (d : K × V) → start < end → cmp k (slice_index_or es start d).0 ≡ Equal
