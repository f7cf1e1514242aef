-- What reading a whole text answers, against the parts that it has.
use Rattle.std.specs.Prelude.{◌≡◌, Option, Some, Result, Ok, Err}
use Rattle.pj_change.specs.declared.change.Change.{Change}
use Rattle.pj_change.specs.Text.{Parts}
use Rattle.pj_change.specs.Parts.{parts_of}
use Rattle.pj_text.specs.declared.refusal.ReadRefusal.{ReadRefusal}
use Rattle.pj_text.specs.declared.refusal.ReadRefusal.TheVariants.{Malformed, Memory}

-- the change of these parts, and `Malformed` where there is no such change, unless memory runs out
abbrev pub IsChangeOfParts : Result Change ReadRefusal → Option Parts → Type 0
IsChangeOfParts (Ok c) found = found ≡ Some (parts_of c)
IsChangeOfParts (Err Malformed) found = (c : Change) → found ≡ Some (parts_of c) → ⊥
IsChangeOfParts (Err Memory) found = Unit {0}

-- just this change, unless memory runs out
abbrev pub IsReadAs : Change → Result Change ReadRefusal → Type 0
IsReadAs change (Ok c) = c ≡ change
IsReadAs change (Err Malformed) = ⊥
IsReadAs change (Err Memory) = Unit {0}
