-- An office in memory, as contracts see it.
use Rattle.std.specs.Prelude.{◌≡◌, ℕ, Result, Ok, Err}
use Rattle.pj_io.specs.Causes.{one_more}
use Rattle.pj_io.specs.Plan.{PlanInMemory}
use Rattle.pj_io.specs.declared.refusal.DoorRefusal.{DoorRefusal}
use Rattle.pj_io.specs.declared.refusal.DoorRefusal.TheVariants.{Failed, Memory}

-- an office in memory: what it has to give, and how its openings went
pub record OfficeInMemory : Type 0 where
  -- what it has to give
  pub plan : PlanInMemory
  -- how many openings there were, of all five kinds
  pub openings : ℕ
  -- how many openings for reading failed
  pub read_faults : ℕ
  -- how many openings for writing failed
  pub write_faults : ℕ

-- an office that was not called yet
abbrev pub new_office : PlanInMemory → OfficeInMemory
new_office its_plan = record { plan = its_plan; openings = 0; read_faults = 0; write_faults = 0 }

-- an opening for reading is counted, and so is its failure
abbrev pub AfterReading : {T : Type 0} → OfficeInMemory → OfficeInMemory → Result T DoorRefusal → Type 0
AfterReading old new (Ok opened) = new ≡ record old { openings = one_more old.openings }
AfterReading old new (Err Memory) = new ≡ record old { openings = one_more old.openings }
AfterReading old new (Err Failed) =
    new ≡ record old { openings = one_more old.openings; read_faults = one_more old.read_faults }

-- an opening for writing is counted, and so is its failure
abbrev pub AfterWriting : {T : Type 0} → OfficeInMemory → OfficeInMemory → Result T DoorRefusal → Type 0
AfterWriting old new (Ok opened) = new ≡ record old { openings = one_more old.openings }
AfterWriting old new (Err Memory) = new ≡ record old { openings = one_more old.openings }
AfterWriting old new (Err Failed) =
    new ≡ record old { openings = one_more old.openings; write_faults = one_more old.write_faults }
