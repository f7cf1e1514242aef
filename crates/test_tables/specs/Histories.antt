-- What a history keeps.
use Rattle.std.specs.Prelude.{List}
use Rattle.pj_change.specs.declared.change.Record.{Record}
use Rattle.pj_deps.specs.Dependents.{Dependents, AreDepsOf}
use Rattle.pj_contest.specs.Contests.{Table, IsContestsOf}

-- both tables are those of the changes
pub record AreTables (list : List Record) (needs : Dependents) (contests : Table) : Type 0 where
  pub needs_are : AreDepsOf list needs
  pub contests_are : IsContestsOf list contests
