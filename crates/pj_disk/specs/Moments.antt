-- The images of a disk over time. A moment is a number that does not fall; what a crash at any moment from one on may have
-- left is a set of images for each moment that the caller names.
use Rattle.std.specs.Prelude.{◌⊎◌, ℕ, ◌≤◌, List}

-- Time goes on by a call: since an earlier moment a crash may have left what it may have left before, or what it may leave
-- now, and nothing else.
pub record Elapses (before now : ℕ) (past since : ℕ → List ℕ → Type 0) (may_leave : List ℕ → Type 0) : Type 0 where
  pub later : before ≤ now
  pub nothing_else : (t : ℕ) (c : List ℕ) → t ≤ before → since t c → past t c ⊎ may_leave c
  pub keeps : (t : ℕ) (c : List ℕ) → t ≤ before → past t c → since t c

-- A crash at any moment from `old` to `new`, both among them, leaves an image that has P.
pub record LeavesOnly {D : Type 0} (moment : D → ℕ) (left_since : D → ℕ → List ℕ → Type 0) (old new : D) (P : List ℕ → Type 0) : Type 0 where
  -- the moment does not fall
  pub later : moment old ≤ moment new
  -- whatever a crash from the old moment on may have left has P
  pub each : (c : List ℕ) → left_since new (moment old) c → P c
  -- for a run that began earlier
  pub before : (t : ℕ) (c : List ℕ) → t ≤ moment old → left_since new t c → left_since old t c ⊎ P c
