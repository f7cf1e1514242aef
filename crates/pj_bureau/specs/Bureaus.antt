-- What proofs know of the stores of an office.
use Rattle.std.specs.Prelude.{ℕ, List}

-- where the office tells, the bytes of the store under each path; and the count of the openings that failed
pub record Bureaus (B : Type 0) : Type 0 where
  -- where it tells, the bytes of the store under a path
  pub stores : B → List ℕ → List ℕ
  -- how often an opening of a store has failed
  pub faults : B → ℕ
