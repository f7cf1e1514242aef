-- A bureau in memory, as contracts see it.
use Rattle.std.specs.Prelude.{◌≡◌, ℕ, List, [], unwrap_or, Result, Ok, Err}
use Rattle.pj_io.specs.Causes.{one_more}
use Rattle.pj_io.specs.declared.refusal.DoorRefusal.{DoorRefusal}
use Rattle.pj_io.specs.declared.refusal.DoorRefusal.TheVariants.{Failed, Memory}
use Rattle.pj_io.specs.MemOffice.{OfficeInMemory}
use Rattle.pj_io.specs.Plan.{named}

-- an office in memory, the bytes of each store by its path, after how many calls all calls of a store fail, and how many
-- openings of stores failed
pub record BureauInMemory : Type 0 where
  pub office : OfficeInMemory
  pub stores : List (List ℕ × List ℕ)
  pub calls : ℕ
  pub faults : ℕ

-- the bytes of the store under a path
abbrev pub store_at : BureauInMemory → List ℕ → List ℕ
store_at bureau path = unwrap_or (named path bureau.stores) []

-- a failed opening of a store is counted, and nothing else changes
abbrev pub AfterStore : {T : Type 0} → BureauInMemory → BureauInMemory → Result T DoorRefusal → Type 0
AfterStore old new (Ok opened) = new ≡ old
AfterStore old new (Err Memory) = new ≡ old
AfterStore old new (Err Failed) = new ≡ record old { faults = one_more old.faults }
