-- For each vertex the last edge that leaves it, and for each edge the one before it that leaves the same vertex.
use Rattle.std.specs.Prelude.{◌≡◌, ℕ, ◌<◌, suc, Option, Some, None, List, length, slice_index_or, IfSome}

-- where an edge leads from
abbrev pub source : List (ℕ × ℕ) → ℕ → ℕ
source edges e = (slice_index_or edges e (0, 0)).0

-- where an edge leads to
abbrev pub target : List (ℕ × ℕ) → ℕ → ℕ
target edges e = (slice_index_or edges e (0, 0)).1

-- how many edges there are up to a link
abbrev pub edges_up_to : Option ℕ → ℕ
edges_up_to None = 0
edges_up_to (Some e) = suc e

-- the link is the last of the first `end` edges that leaves v
pub record IsLastLeaving (edges : List (ℕ × ℕ)) (v end : ℕ) (link : Option ℕ) : Type 0 where
  pub is_one : IfSome link (λ e. (e < end) × (source edges e ≡ v))
  pub is_last : (e : ℕ) → e < end → source edges e ≡ v → e < edges_up_to link

-- the links of a graph with so many vertices
pub record IsLinked (size : ℕ) (edges : List (ℕ × ℕ)) (last earlier : List (Option ℕ)) : Type 0 where
  pub last_len : length last ≡ size
  pub earlier_len : length earlier ≡ length edges
  pub last_is : (v : ℕ) → v < size → IsLastLeaving edges v (length edges) (slice_index_or last v None)
  pub earlier_is : (e : ℕ) → e < length edges → IsLastLeaving edges (source edges e) e (slice_index_or earlier e None)
