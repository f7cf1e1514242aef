-- What joins two numbers of a graph, be it across inner ones.
use Rattle.std.specs.Prelude.{◌≡◌, ℕ, Bool, true, false, List}
use Rattle.std.specs.List.{slice_index_or}
use Rattle.pj_reach.specs.Reach.{IsEdge}

-- the number is marked as an inner one
abbrev pub is_inner : List Bool → ℕ → Bool
is_inner inner a = slice_index_or inner a false

-- an edge leads from a to b, or a path of edges does whose numbers between its ends are inner
pub data IsAcross (edges : List (ℕ × ℕ)) (inner : List Bool) : ℕ → ℕ → Type 0 where
  straight : {a b : ℕ} → IsEdge edges a b → IsAcross edges inner a b
  over : {a b c : ℕ} → IsEdge edges a b → is_inner inner b ≡ true → IsAcross edges inner b c → IsAcross edges inner a c

-- so joined, and neither is inner itself
abbrev pub AreJoined : List (ℕ × ℕ) → List Bool → ℕ → ℕ → Type 0
AreJoined edges inner a b = (is_inner inner a ≡ false) × (is_inner inner b ≡ false) × IsAcross edges inner a b
