-- Edges within a class.
use Rattle.std.specs.Prelude.{◌≡◌, ℕ, ◌<◌, List, length, slice_index}
use Rattle.pj_reach.specs.Links.{source, target}

-- an edge leads from a member of the class to a member of the class
abbrev pub HasInnerEdge : List (ℕ × ℕ) → List ℕ → ℕ → Type 0
HasInnerEdge edges class_of class = (e : ℕ) × (e < length edges) × (slice_index class_of (source edges e) ≡ class) × (slice_index class_of (target edges e) ≡ class)
