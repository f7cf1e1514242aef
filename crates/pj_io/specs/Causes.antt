-- When a fault may be answered: only where a count of faults rose in this call.
use Rattle.std.specs.Prelude.{ℕ, ◌+◌, ◌-◌, ◌^◌, ◌≤◌, min, Result, OnErr, IsErrOf}
use Rattle.pj_io.specs.declared.refusal.DoorRefusal.{DoorRefusal}
use Rattle.pj_io.specs.declared.refusal.DoorRefusal.TheVariants.{Failed as RefusedByFault}

-- a count of 64 bits after one more fault: it stands still at its end
abbrev pub one_more : ℕ → ℕ
one_more count = min (count + 1) (2 ^ 64 - 1)

-- the count rose, or stands at its end
abbrev pub Rose : ℕ → ℕ → Type 0
Rose before now = one_more before ≤ now

-- the count does not fall, and any failure comes only where it rose
pub record HasCause {T E : Type 0} (before now : ℕ) (result : Result T E) : Type 0 where
  pub never_falls : before ≤ now
  pub failed : OnErr result (Rose before now)

-- the count does not fall, and `Failed` comes only where it rose; want of memory is free
pub record HasFaultCause {T : Type 0} (before now : ℕ) (result : Result T DoorRefusal) : Type 0 where
  pub never_falls : before ≤ now
  pub failed : IsErrOf result RefusedByFault → Rose before now
