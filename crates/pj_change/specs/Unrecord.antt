-- The removal of one change from a channel that holds a list of changes: each answer, and where it comes.
use Rattle.std.specs.Prelude.{◌≡◌, false, not, IsTrue, List, Contains, filter, Result, Ok, Err}
use Rattle.pj_name.specs.declared.name.Name.{Name}
use Rattle.pj_name.specs.Name.{same_name}
use Rattle.pj_change.specs.declared.change.Record.{Record}
use Rattle.pj_change.specs.declared.refusals.UnrecordRefusal.{UnrecordRefusal}
use Rattle.pj_change.specs.declared.refusals.UnrecordRefusal.TheVariants.{Absent, Held, Memory}
use Rattle.pj_change.specs.Lawful.{is_held}
use Rattle.pj_change.specs.Answers.{ComesWhere}
use Rattle.pj_change.specs.Least.{IsLeast}

-- ---- causes

-- a change of the list that needs the one of this name has the name holder
pub record IsHolder (list : List Record) (name holder : Name) : Type 0 where
  pub needing : Record
  pub member : Contains list needing
  pub needs : Contains needing.change.needs name
  pub named : needing.name ≡ holder

-- the change is there, and this is the least of those that need it
abbrev pub IsHeldBy : List Record → Name → Name → Type 0
IsHeldBy list name holder = IsTrue (is_held list name) × IsLeast (IsHolder list name) holder

-- the change is there, and none needs it
abbrev pub MayLeave : List Record → Name → Type 0
MayLeave list name = IsTrue (is_held list name) × ((holder : Name) → IsHolder list name holder → ⊥)

-- ---- answers

-- the list without the change of this name
abbrev pub without : List Record → Name → List Record
without list name = filter (λ r. not (same_name r.name name)) list

-- what a removal answers
pub record IsUnrecordAnswer (list : List Record) (name : Name) (result : Result (List Record) UnrecordRefusal) : Type 0 where
  pub absent : ComesWhere Memory result (Err Absent) (is_held list name ≡ false)
  pub held : (holder : Name) → ComesWhere Memory result (Err (Held holder)) (IsHeldBy list name holder)
  pub out : (after : List Record) → ComesWhere Memory result (Ok after) (MayLeave list name × (after ≡ without list name))
