-- The numbers for a source and a sink in memory, as contracts see them.
use Rattle.std.specs.Prelude.{ℕ, List}

-- how many bytes each call of a source and of a sink moves at most, and which calls fail, counted from 1
pub record WaysInMemory : Type 0 where
  pub pieces : List ℕ
  pub take_failing : List ℕ
  pub piece : ℕ
  pub give_failing : List ℕ
