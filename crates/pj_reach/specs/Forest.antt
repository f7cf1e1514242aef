-- What a depth-first traversal through a whole graph finds.
use Rattle.std.specs.Prelude.{◌≡◌, ◌≢◌, ℕ, ◌<◌, ◌≤◌, List, length, slice_index, ◌⊎◌}
use Rattle.pj_reach.specs.Reach.{IsEdge, Reaches}
use Rattle.pj_reach.specs.Traversals.{Among, HasRoot}

-- the vertices in the order in which they were finished, and the tree of each
pub record IsForest (size : ℕ) (edges : List (ℕ × ℕ)) (roots tree_of finished : List ℕ) : Type 0 where
  -- each vertex has a tree
  pub tree_len : length tree_of ≡ size
  -- no more vertices were finished than there are
  pub finished_few : length finished ≤ size
  -- what was finished is a vertex
  pub finished_in : (p : ℕ) → p < length finished → slice_index finished p < size
  -- each vertex was finished
  pub all_finished : (v : ℕ) → v < size → Among finished v
  -- no vertex was finished twice
  pub once : (p q : ℕ) → p < q → q < length finished → slice_index finished p ≢ slice_index finished q
  -- an edge leads to a vertex that was finished by any later moment, or that reaches what was finished then
  pub late : (p k : ℕ) → p ≤ k → k < length finished → (b : ℕ) → IsEdge edges (slice_index finished p) b
      → ((q : ℕ) × (q ≤ k) × (slice_index finished q ≡ b)) ⊎ Reaches edges b (slice_index finished k)
  -- an edge leads to no later tree
  pub falling : (a b : ℕ) → a < size → IsEdge edges a b → slice_index tree_of b ≤ slice_index tree_of a
  -- a vertex that was finished later is in no earlier tree
  pub grouped : (p q : ℕ) → p < q → q < length finished
      → slice_index tree_of (slice_index finished p) ≤ slice_index tree_of (slice_index finished q)
  -- the first root in the tree of a vertex is the vertex or reaches it
  pub rooted : (v : ℕ) → v < size → HasRoot edges roots (length roots) tree_of v
  -- there are no more trees than roots
  pub few : (v : ℕ) → v < size → slice_index tree_of v < length roots
