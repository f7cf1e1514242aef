-- A depth-first traversal in progress.
use Rattle.std.specs.Prelude.{◌≡◌, ◌≢◌, ℕ, ◌+◌, ◌*◌, ◌<◌, ◌≤◌, Bool, true, false, Option, None, List, [], ◌∷◌, ◌++◌, length, slice_index, slice_index_or, sum_by, count_by, not, IfSome, ◌⊎◌}
use Rattle.pj_reach.specs.Reach.{IsEdge, Reaches}
use Rattle.pj_reach.specs.Links.{source, target, edges_up_to}

-- where a traversal stands: the vertices that it has seen and their trees, for each vertex the next edge to follow,
-- the path to the vertex that it is at, and the vertices that are finished, the first one first
pub record State : Type 0 where
  pub seen : List Bool
  pub tree_of : List ℕ
  pub next : List (Option ℕ)
  pub path : List ℕ
  pub finished : List ℕ

-- the traversal has seen the vertex
abbrev pub is_seen : State → ℕ → Bool
is_seen w v = slice_index_or w.seen v false

-- the tree of a vertex
abbrev pub tree : State → ℕ → ℕ
tree w v = slice_index w.tree_of v

-- the vertex at a place of the path
abbrev pub on_path : State → ℕ → ℕ
on_path w i = slice_index w.path i

-- the vertex that was finished at a place of the order
abbrev pub finished_at : State → ℕ → ℕ
finished_at w p = slice_index w.finished p

-- the next edge to follow from a vertex, if one is left
abbrev pub next_of : State → ℕ → Option ℕ
next_of w v = slice_index_or w.next v None

-- v stands somewhere in the list
abbrev pub Among : List ℕ → ℕ → Type 0
Among xs v = (k : ℕ) × (k < length xs) × (slice_index xs k ≡ v)

-- each seen vertex is once on the path or finished
pub record IsPlaced (size : ℕ) (w : State) : Type 0 where
  pub seen_len : length w.seen ≡ size
  pub tree_len : length w.tree_of ≡ size
  pub next_len : length w.next ≡ size
  pub path_in : (i : ℕ) → i < length w.path → (on_path w i < size) × (is_seen w (on_path w i) ≡ true)
  pub finished_in : (p : ℕ) → p < length w.finished → (finished_at w p < size) × (is_seen w (finished_at w p) ≡ true)
  pub placed : (v : ℕ) → v < size → is_seen w v ≡ true → Among w.finished v ⊎ Among w.path v
  pub path_once : (i j : ℕ) → i < j → j < length w.path → on_path w i ≢ on_path w j
  pub finished_once : (p q : ℕ) → p < q → q < length w.finished → finished_at w p ≢ finished_at w q
  pub apart : (p i : ℕ) → p < length w.finished → i < length w.path → finished_at w p ≢ on_path w i
  pub counted : length w.finished + length w.path + count_by not w.seen ≡ size

-- the edges that were followed lead to seen vertices
pub record HasCursors (size : ℕ) (edges : List (ℕ × ℕ)) (w : State) : Type 0 where
  pub next_is : (v : ℕ) → v < size → IfSome (next_of w v) (λ e. (e < length edges) × (source edges e ≡ v))
  pub passed : (i : ℕ) → i < length w.path → (e : ℕ) → e < length edges → source edges e ≡ on_path w i
      → edges_up_to (next_of w (on_path w i)) ≤ e → is_seen w (target edges e) ≡ true
  pub fresh : (v : ℕ) → v < size → is_seen w v ≡ false → (e : ℕ) → e < length edges → source edges e ≡ v
      → e < edges_up_to (next_of w v)

-- each vertex on the path reaches those after it; an edge of a finished vertex leads to a seen one,
-- and at each later moment that one was finished or reached the vertex that was finished then
pub record IsDeepening (edges : List (ℕ × ℕ)) (w : State) : Type 0 where
  pub chain : (i j : ℕ) → i < j → j < length w.path → Reaches edges (on_path w i) (on_path w j)
  pub closed : (p : ℕ) → p < length w.finished → (b : ℕ) → IsEdge edges (finished_at w p) b → is_seen w b ≡ true
  pub late : (p k : ℕ) → p ≤ k → k < length w.finished → (b : ℕ) → IsEdge edges (finished_at w p) b
      → ((q : ℕ) × (q ≤ k) × (finished_at w q ≡ b)) ⊎ Reaches edges b (finished_at w k)

-- the first of the roots in v's tree is v or reaches v
abbrev pub HasRoot : List (ℕ × ℕ) → List ℕ → ℕ → List ℕ → ℕ → Type 0
HasRoot edges roots tried tree_of v =
    (s : ℕ) × (s < tried) × (slice_index tree_of (slice_index roots s) ≡ slice_index tree_of v)
    × ((slice_index roots s ≡ v) ⊎ Reaches edges (slice_index roots s) v)
    × ((u : ℕ) → u < s → slice_index tree_of (slice_index roots u) < slice_index tree_of v)

-- the trees are numbered in the order in which they were grown, and edges lead to no later tree;
-- the first roots were tried
pub record HasTrees (size : ℕ) (edges : List (ℕ × ℕ)) (roots : List ℕ) (tried grown : ℕ) (w : State) : Type 0 where
  pub grown_few : grown ≤ tried
  pub roots_seen : (s : ℕ) → s < tried → (slice_index roots s < size) × (is_seen w (slice_index roots s) ≡ true)
  pub grown_only : (v : ℕ) → v < size → is_seen w v ≡ true → tree w v < grown
  pub path_newest : (i : ℕ) → i < length w.path → tree w (on_path w i) + 1 ≡ grown
  pub falling : (p : ℕ) → p < length w.finished → (b : ℕ) → IsEdge edges (finished_at w p) b
      → tree w b ≤ tree w (finished_at w p)
  pub grouped : (p q : ℕ) → p < q → q < length w.finished → tree w (finished_at w p) ≤ tree w (finished_at w q)
  pub rooted : (v : ℕ) → v < size → is_seen w v ≡ true → HasRoot edges roots tried w.tree_of v

-- a step from the one state to the other keeps the trees in order, whatever the roots are
abbrev pub KeepsTrees : ℕ → List (ℕ × ℕ) → ℕ → State → State → Type 0
KeepsTrees size edges grown old new =
    (roots : List ℕ) (tried : ℕ) → HasTrees size edges roots tried grown old → HasTrees size edges roots tried grown new

-- the traversal as it was when v, which was taken off, stood at the end of the path
abbrev pub back_at : State → ℕ → State
back_at w v = record w { path = w.path ++ v ∷ [] }

-- a traversal in order
pub record IsTraversal (size : ℕ) (edges : List (ℕ × ℕ)) (w : State) : Type 0 where
  pub placed : IsPlaced size w
  pub cursors : HasCursors size edges w
  pub deepening : IsDeepening edges w

-- how much there is left to do
abbrev pub work : State → ℕ
work w = 2 * sum_by edges_up_to w.next + length w.path
