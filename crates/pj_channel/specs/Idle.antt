-- Answers that leave the tables alone.
use Rattle.std.specs.Prelude.{Result, Ok, Err}
use Rattle.pj_change.specs.declared.refusals.Applied.{Applied}
use Rattle.pj_change.specs.declared.refusals.Applied.TheVariants.{New, Already}
use Rattle.pj_change.specs.declared.refusals.ApplyRefusal.{ApplyRefusal}
use Rattle.pj_change.specs.declared.refusals.ApplyRefusal.TheVariants as apply
use Rattle.pj_change.specs.declared.refusals.UnrecordRefusal.{UnrecordRefusal}
use Rattle.pj_change.specs.declared.refusals.UnrecordRefusal.TheVariants as unrecord

-- the change is there already, or is refused by what the channel holds
abbrev pub AppliesNothing : {C : Type 0} → Result (Applied C) ApplyRefusal → Type 0
AppliesNothing (Ok (New channel)) = ⊥
AppliesNothing (Ok Already) = Unit {0}
AppliesNothing (Err (apply.Needs name)) = Unit {0}
AppliesNothing (Err (apply.Context hunk)) = Unit {0}
AppliesNothing (Err apply.Memory) = ⊥

-- the removal is refused by what the channel holds
abbrev pub RemovesNothing : {C : Type 0} → Result C UnrecordRefusal → Type 0
RemovesNothing (Ok channel) = ⊥
RemovesNothing (Err unrecord.Absent) = Unit {0}
RemovesNothing (Err (unrecord.Held holder)) = Unit {0}
RemovesNothing (Err unrecord.Memory) = ⊥
