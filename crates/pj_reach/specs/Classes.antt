-- The strong classes of a graph as numbered trees.
use Rattle.std.specs.Prelude.{◌≡◌, ℕ, ◌<◌, ◌≤◌, List, length, slice_index, ◌↔◌}
use Rattle.pj_reach.specs.Reach.{IsEdge, InOneClass}
use Rattle.pj_reach.specs.Traversals.{Among}

-- an edge turned round
abbrev pub turned_edge : ℕ × ℕ → ℕ × ℕ
turned_edge e = (e.1, e.0)

-- each tree is a strong class, edges lead to no earlier tree, and the vertices are listed tree by tree
pub record IsCondensed (size : ℕ) (edges : List (ℕ × ℕ)) (tree_of finished : List ℕ) : Type 0 where
  pub tree_len : length tree_of ≡ size
  pub one_tree : (a b : ℕ) → a < size → b < size → (slice_index tree_of a ≡ slice_index tree_of b) ↔ InOneClass edges a b
  pub rising : (a b : ℕ) → IsEdge edges a b → slice_index tree_of a ≤ slice_index tree_of b
  pub few : (v : ℕ) → v < size → slice_index tree_of v < size
  pub finished_in : (p : ℕ) → p < length finished → slice_index finished p < size
  pub all_finished : (v : ℕ) → v < size → Among finished v
  pub grouped : (p q : ℕ) → p < q → q < length finished → slice_index tree_of (slice_index finished p) ≤ slice_index tree_of (slice_index finished q)
