-- What proofs know of the outside: for each trait a record of functions, which each type of the trait gives.
use Rattle.std.specs.Prelude.{ℕ, Bool, List}
use Rattle.pj_io.specs.Office.{Contents}

-- sources: whether one tells its bytes; where it tells, what is left and whether it was shut; and its count of faults
pub record Sources (S : Type 0) : Type 0 where
  -- whether it tells its bytes
  pub tells : S → Bool
  -- where it tells, the bytes that are left
  pub left : S → List ℕ
  -- where it tells, whether it was shut
  pub was_shut : S → Bool
  -- how often it has failed
  pub faults : S → ℕ

-- sinks
pub record Sinks (D : Type 0) : Type 0 where
  -- whether it tells what was written
  pub tells : D → Bool
  -- where it tells, the text that says which sink it is
  pub label : D → List ℕ
  -- where it tells, the bytes that were written
  pub written : D → List ℕ
  -- where it tells, whether it was shut
  pub was_shut : D → Bool
  -- how often it has failed
  pub faults : D → ℕ

-- doors
pub record Doors (V : Type 0) : Type 0 where
  -- whether it tells its sessions
  pub tells : V → Bool
  -- how many pairs it has given
  pub given : V → ℕ
  -- where it tells, the bytes of each session still to come, in order
  pub coming : V → List (List ℕ)
  -- how many sessions it has still to give
  pub left : V → ℕ
  -- how often it has failed
  pub faults : V → ℕ

-- offices
pub record Offices (O : Type 0) : Type 0 where
  -- whether it tells what its sources and doors give
  pub tells : O → Bool
  -- where it tells, what its sources and doors give
  pub contents : O → Contents
  -- how often an opening for reading has failed
  pub read_faults : O → ℕ
  -- how often an opening for writing has failed
  pub write_faults : O → ℕ

-- sources and sinks, where what is said is of both
pub record Streams (S D : Type 0) : Type 0 where
  pub sources : Sources S
  pub sinks : Sinks D
