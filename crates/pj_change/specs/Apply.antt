-- The application of a change c to a channel that holds a list of changes: each answer, and where it comes.
use Rattle.std.specs.Prelude.{◌≡◌, ℕ, false, IsTrue, List, [], ◌∷◌, ◌++◌, Contains, Some, Result, Ok, Err}
use Rattle.std.specs.List.{list_all}
use Rattle.pj_name.specs.declared.name.Name.{Name}
use Rattle.pj_change.specs.declared.change.Record.{Record}
use Rattle.pj_change.specs.declared.refusals.Applied.{Applied}
use Rattle.pj_change.specs.declared.refusals.Applied.TheVariants.{New, Already}
use Rattle.pj_change.specs.declared.refusals.ApplyRefusal.{ApplyRefusal}
use Rattle.pj_change.specs.declared.refusals.ApplyRefusal.TheVariants.{Needs, Context, Memory}
use Rattle.pj_change.specs.Context.{first_broken}
use Rattle.pj_change.specs.Lawful.{is_held, needs_of, Follows}
use Rattle.pj_change.specs.Answers.{ComesWhere}
use Rattle.pj_change.specs.Least.{IsLeast}

-- ---- causes

-- a need of c that no change of the list has the name of
abbrev pub IsMissing : List Record → Record → Name → Type 0
IsMissing list c name = Contains c.change.needs name × (is_held list name ≡ false)

-- c is new, and this is the least need that is missing
abbrev pub LacksNeed : List Record → Record → Name → Type 0
LacksNeed list c name = (is_held list c.name ≡ false) × IsLeast (IsMissing list c) name

-- c is new, no need is missing, and hunk k is the first whose context does not hold
abbrev pub BreaksContext : List Record → Record → ℕ → Type 0
BreaksContext list c k =
    (is_held list c.name ≡ false) × IsTrue (list_all (is_held list) c.change.needs) × (first_broken c (needs_of list c) ≡ Some k)

-- ---- answers

-- what an application answers
pub record IsApplyAnswer (list : List Record) (c : Record) (result : Result (Applied (List Record)) ApplyRefusal) : Type 0 where
  pub already : ComesWhere Memory result (Ok Already) (IsTrue (is_held list c.name))
  pub needs : (name : Name) → ComesWhere Memory result (Err (Needs name)) (LacksNeed list c name)
  pub context : (k : ℕ) → ComesWhere Memory result (Err (Context k)) (BreaksContext list c k)
  pub new : (after : List Record) → ComesWhere Memory result (Ok (New after)) (Follows list c × (after ≡ list ++ c ∷ []))
