-- A graph on numbers, given by the list of its edges.
use Rattle.std.specs.Prelude.{◌≡◌, ℕ, ◌<◌, List, All, Contains, ◌⊎◌}

-- each edge leads from a number below size to a number below size
abbrev pub AreEdgesBelow : ℕ → List (ℕ × ℕ) → Type 0
AreEdgesBelow size edges = All (λ e. (e.0 < size) × (e.1 < size)) edges

-- an edge leads from a to b
unfoldable pub IsEdge : List (ℕ × ℕ) → ℕ → ℕ → Type 0
IsEdge edges a b = Contains edges (a, b)

-- a path of one or more edges leads from a to b
pub data Reaches (edges : List (ℕ × ℕ)) : ℕ → ℕ → Type 0 where
  edge : {a b : ℕ} → IsEdge edges a b → Reaches edges a b
  onward : {a b c : ℕ} → IsEdge edges a b → Reaches edges b c → Reaches edges a c

-- a and b are in one strong class: they are one number, or each reaches the other
abbrev pub InOneClass : List (ℕ × ℕ) → ℕ → ℕ → Type 0
InOneClass edges a b = (a ≡ b) ⊎ (Reaches edges a b × Reaches edges b a)

-- a is the least number of its class
abbrev pub IsLeast : List (ℕ × ℕ) → ℕ → Type 0
IsLeast edges a = (b : ℕ) → b < a → ¬ (InOneClass edges a b)
