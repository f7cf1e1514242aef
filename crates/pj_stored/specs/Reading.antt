-- A disk that was only read.
use Rattle.std.specs.Prelude.{◌≡◌, ℕ, ◌≤◌, Bool, List}
use Rattle.pj_disk.specs.Told.{Where}
use Rattle.pj_disk.specs.Image.{AddsNone}
use Rattle.pj_disk.specs.Moments.{LeavesOnly}

-- what a read gives is the same, and a crash at any moment leaves what it may have left before
pub record IsRead {K : Type 0} (tells : K → Bool) (seen : K → List ℕ) (may_leave : K → List ℕ → Type 0) (moment : K → ℕ)
    (left_since : K → ℕ → List ℕ → Type 0) (faults : K → ℕ) (old new : K) : Type 0 where
  pub told : tells new ≡ tells old
  pub count : faults old ≤ faults new
  pub seen_is : Where (tells old) (seen new ≡ seen old)
  pub images : Where (tells old) (AddsNone (may_leave old) (may_leave new))
  pub moments : Where (tells old) (LeavesOnly moment left_since old new (may_leave old))
