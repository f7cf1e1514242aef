-- The removal of a change with all that need it from a channel that holds a list of changes: each answer, and where it comes.
use Rattle.std.specs.Prelude.{◌≡◌, false, IsTrue, List, Result, Ok, Err}
use Rattle.pj_name.specs.declared.name.Name.{Name}
use Rattle.pj_change.specs.declared.change.Record.{Record}
use Rattle.pj_change.specs.declared.refusals.UprootRefusal.{UprootRefusal}
use Rattle.pj_change.specs.declared.refusals.UprootRefusal.TheVariants.{Absent, Memory}
use Rattle.pj_change.specs.Lawful.{is_held}
use Rattle.pj_change.specs.Uproot.{IsUprooted}
use Rattle.pj_change.specs.Answers.{ComesWhere}

-- what it answers
pub record IsUprootAnswer (list : List Record) (name : Name) (result : Result (List Record) UprootRefusal) : Type 0 where
  pub absent : ComesWhere Memory result (Err Absent) (is_held list name ≡ false)
  pub out : (after : List Record) → ComesWhere Memory result (Ok after) (IsTrue (is_held list name) × IsUprooted list name after)
