-- When tables are those that show the view of a lawful list of changes.
use Rattle.std.specs.Prelude.{List}
use Rattle.pj_change.specs.declared.change.Record.{Record}
use Rattle.pj_change.specs.Lawful.{IsLawful}
use Rattle.pj_outline.specs.declared.outline.Outline.{Outline}
use Rattle.pj_outline.specs.OutlineOf.{IsOutlineOf}
use Rattle.pj_states.specs.Rows.{Rows}
use Rattle.pj_states.specs.OfSets.{AreVersionsOf}
use Rattle.pj_contest.specs.Contests.{Table, IsContestsOf}

-- the tables are those of the list, each by its own definition, and the list is lawful
pub record AreParts (list : List Record) (outline : Outline) (versions : Rows) (contests : Table) : Type 0 where
  pub lawful : IsLawful list
  pub outline_is : IsOutlineOf list outline
  pub versions_are : AreVersionsOf list versions
  pub contests_are : IsContestsOf list contests
