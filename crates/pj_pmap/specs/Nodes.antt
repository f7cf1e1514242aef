-- Lists of nodes, each of which holds some pairs of a rising list.
use Rattle.std.specs.Prelude.{◌≡◌, ℕ, suc, ◌<◌, ◌≤◌, false, List, [], ◌∷◌, length, take, drop, flat_map, Option, Some, None, slice_index_or}
use Rattle.std.specs.declared.cmp.Ordering.{Ordering}
use Rattle.pj_pmap.specs.Pairs.{AllAbove, AllBelow, IsRising, starts_above}

-- the pairs of a node, or none
abbrev pub pairs_of : {N P : Type 0} → (N → List P) → Option N → List P
pairs_of pairs None = []
pairs_of pairs (Some n) = pairs n

-- a node has a pair, and at most so many
pub record IsNode {P : Type 0} (most : ℕ) (es : List P) : Type 0 where
  pub some : 0 < length es
  pub few : length es ≤ most

-- so it is with this node, if there is one
abbrev pub IsNodeOrNone : {N P : Type 0} → (N → List P) → ℕ → Option N → Type 0
IsNodeOrNone pairs most None = Unit {0}
IsNodeOrNone pairs most (Some n) = IsNode most (pairs n)

-- so it is with each of these nodes
abbrev pub AllNodes : {N P : Type 0} → (N → List P) → ℕ → List N → Type 0
AllNodes pairs most [] = Unit {0}
AllNodes pairs most (n ∷ ns) = IsNode most (pairs n) × AllNodes pairs most ns

-- nodes that hold a rising list in turn
pub record IsLevel {K V N : Type 0} (cmp : K → K → Ordering) (pairs : N → List (K × V)) (most : ℕ) (level : List N) : Type 0 where
  pub rising : IsRising cmp (flat_map pairs level)
  pub nodes : AllNodes pairs most level

-- the key belongs into the node at this index
pub record IsChosen {K V N : Type 0} (cmp : K → K → Ordering) (pairs : N → List (K × V)) (k : K) (level : List N) (i : ℕ) : Type 0 where
  pub in_range : i < length level
  pub below : AllBelow cmp k (flat_map pairs (take i level))
  pub above : AllAbove cmp k (flat_map pairs (drop (suc i) level))
  pub starts : (d : N) → 0 < i → starts_above cmp k (pairs (slice_index_or level i d)) ≡ false
