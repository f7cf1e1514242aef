-- What proofs know of disks: a record of functions, which each type of the trait gives.
use Rattle.std.specs.Prelude.{ℕ, Bool, List}

-- whether one tells; where it tells, its bytes and images; the moments; and its count of faults
pub record Disks (K : Type 0) : Type 1 where
  -- whether it tells its bytes and its images
  pub tells : K → Bool
  -- where it tells, the bytes that a read gives
  pub seen : K → List ℕ
  -- where it tells, the images that a crash now may leave
  pub may_leave : K → List ℕ → Type 0
  -- the number of this moment
  pub moment : K → ℕ
  -- where it tells, the images that a crash may have left at any moment since this one
  pub left_since : K → ℕ → List ℕ → Type 0
  -- how often it has failed
  pub faults : K → ℕ
