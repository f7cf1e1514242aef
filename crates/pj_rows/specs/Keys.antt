-- Sets of keys and counts of keys, as maps.
use Rattle.std.specs.Prelude.{◌≡◌, ℕ, ◌<◌, Bool, List, [], ◌∷◌, Option, Some, None, map, count_by, is_some}
use Rattle.std.specs.List.{list_any, take_while}
use Rattle.std.specs.Ordering.{is_lt, is_eq}
use Rattle.std.specs.declared.cmp.Ordering.{Ordering}
use Rattle.pj_pmap.specs.Pairs.{value_at, rest_after, IsRising}
use Rattle.pj_rows.specs.declared.values.Count.{Count}

-- the count, or 0
abbrev pub amount : Option Count → ℕ
amount None = 0
amount (Some n) = n.count

module _ {K V : Type 0} (cmp : K → K → Ordering) where
  -- the key is there
  abbrev pub has : K → List (K × V) → Bool
  has k es = is_some (value_at cmp k es)

  -- the keys above one and below the other, in order
  abbrev pub keys_in : K → K → List (K × V) → List K
  keys_in above below es = map (λ e. e.0) (take_while (λ e. is_lt (cmp e.0 below)) (rest_after cmp above es))

  -- those from this one on, which is there
  abbrev pub keys_from : K → List (K × V) → Option K → List K
  keys_from below es None = []
  keys_from below es (Some k) = k ∷ keys_in k below es

module _ {K : Type 0} (cmp : K → K → Ordering) where
  -- the key is one of these
  abbrev pub is_among : K → List K → Bool
  is_among q keys = list_any (λ k. is_eq (cmp q k)) keys

  -- how often it is
  abbrev pub times : K → List K → ℕ
  times q keys = count_by (λ k. is_eq (cmp q k)) keys

  -- the count beside the key, or 0
  abbrev pub number_at : K → List (K × Count) → ℕ
  number_at k es = amount (value_at cmp k es)

  -- no key has a count of 0, and the keys rise
  pub record AllCounted (es : List (K × Count)) : Type 0 where
    pub rising : IsRising cmp es
    pub some : (k : K) (n : Count) → value_at cmp k es ≡ Some n → 0 < n.count
