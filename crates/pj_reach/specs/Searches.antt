-- A search in progress: from one number of a graph, across inner numbers alone.
use Rattle.std.specs.Prelude.{◌≡◌, ℕ, ◌+◌, ◌<◌, ◌≤◌, ◌==◌, Bool, true, false, cond, Option, Some, None, List, [], length, slice_index, slice_index_or, sum_by, Contains, IfSome, ◌⊎◌}
use Rattle.pj_reach.specs.declared.joining.Search.{Search}
use Rattle.pj_reach.specs.Reach.{IsEdge}
use Rattle.pj_reach.specs.Traversals.{Among}
use Rattle.pj_reach.specs.Across.{is_inner, IsAcross, AreJoined}

-- where a search stands: for each number the start of the last search that reached it, the numbers whose edges are
-- still to be followed, and what was found to be joined
pub record State : Type 0 where
  pub reached_from : List (Option ℕ)
  pub waiting : List ℕ
  pub pairs : List (ℕ × ℕ)

-- the state of a search
abbrev pub state : Search → State
state s = record { reached_from = s.reached_from.items; waiting = s.waiting.items; pairs = s.pairs.items }

-- the search from start has reached the number
abbrev pub IsReached : State → ℕ → ℕ → Type 0
IsReached s start b = slice_index_or s.reached_from b None ≡ Some start

-- the search from start goes on at the number: at start itself, or at an inner number that it has reached
abbrev pub IsWay : List Bool → ℕ → State → ℕ → Type 0
IsWay inner start s a = (a ≡ start) ⊎ (IsReached s start a × (is_inner inner a ≡ true))

-- each edge that leaves the number leads to a reached one
abbrev pub IsFollowed : List (ℕ × ℕ) → ℕ → State → ℕ → Type 0
IsFollowed edges start s a = (b : ℕ) → IsEdge edges a b → IsReached s start b

-- the search from start has reached only what start leads to across inner numbers, has joined start to each reached
-- number that is not inner, and waits only at numbers at which it goes on
pub record IsSearch (edges : List (ℕ × ℕ)) (inner : List Bool) (start : ℕ) (s : State) : Type 0 where
  pub reached_len : length s.reached_from ≡ length inner
  pub latest : (b : ℕ) → IfSome (slice_index_or s.reached_from b None) (λ a. a ≤ start)
  pub sound : (b : ℕ) → IsReached s start b → IsAcross edges inner start b
  pub waits : (i : ℕ) → i < length s.waiting → (slice_index s.waiting i < length inner) × IsWay inner start s (slice_index s.waiting i)
  pub joined : (a b : ℕ) → Contains s.pairs (a, b) → AreJoined edges inner a b
  pub paired : (b : ℕ) → IsReached s start b → is_inner inner b ≡ false → Contains s.pairs (start, b)

-- 1 for a number that the search from start has not reached
abbrev pub unreached : ℕ → Option ℕ → ℕ
unreached start None = 1
unreached start (Some a) = cond (a == start) 0 1

-- how many numbers the search from start has not reached, and how many wait
abbrev pub work : ℕ → State → ℕ
work start s = sum_by (unreached start) s.reached_from + length s.waiting

-- the search has lost nothing on the way, it waits at each new number at which it goes on, and there is no more to do
pub record GoesOn (inner : List Bool) (start : ℕ) (old new : State) : Type 0 where
  pub reached : (b : ℕ) → IsReached old start b → IsReached new start b
  pub waiting : (a : ℕ) → Among old.waiting a → Among new.waiting a
  pub pairs : (pair : ℕ × ℕ) → Contains old.pairs pair → Contains new.pairs pair
  pub ways : (a : ℕ) → IsWay inner start new a → Among new.waiting a ⊎ IsWay inner start old a
  pub falls : work start new ≤ work start old

-- the searches from the numbers below `end` are over
pub record IsSearched (edges : List (ℕ × ℕ)) (inner : List Bool) (end : ℕ) (s : State) : Type 0 where
  pub reached_len : length s.reached_from ≡ length inner
  pub earlier : (b : ℕ) → IfSome (slice_index_or s.reached_from b None) (λ a. a < end)
  pub at_rest : s.waiting ≡ []
  pub joined : (a b : ℕ) → Contains s.pairs (a, b) → AreJoined edges inner a b
  pub whole : (a b : ℕ) → a < end → AreJoined edges inner a b → Contains s.pairs (a, b)
