-- When parts are the tables of a lawful list of changes.
use Rattle.std.specs.Prelude.{List}
use Rattle.pj_change.specs.declared.change.Record.{Record}
use Rattle.pj_change.specs.Lawful.{IsLawful}
use Rattle.pj_outline.specs.declared.outline.Outline.{Outline}
use Rattle.pj_outline.specs.OutlineOf.{IsOutlineOf}
use Rattle.pj_states.specs.Rows.{Rows}
use Rattle.pj_states.specs.OfSets.{AreVersionsOf}
use Rattle.pj_contest.specs.Contests.{Table, IsContestsOf}
use Rattle.pj_deps.specs.Dependents.{Dependents, AreDepsOf}
use Rattle.pj_rows.specs.declared.values.Here.{Here}
use Rattle.pj_tree.specs.Rows.{Listing}
use Rattle.pj_tree.specs.TreeOf.{IsTreeOf}
use Rattle.pj_dead.specs.declared.row.PseudoRow.{PseudoRow}
use Rattle.pj_dead.specs.Pseudo.{AreRowsOf}
use Rattle.pj_view.specs.SetGraph.{graph_of}

-- the parts are those of the list, each by the definition of its own table, and the list is lawful
pub record AreTables (list : List Record) (outline : Outline) (versions : Rows) (contests : Table) (deps : Dependents) (names : Listing)
    (pseudo : List (PseudoRow × Here)) : Type 0 where
  pub lawful : IsLawful list
  pub outline_is : IsOutlineOf list outline
  pub versions_are : AreVersionsOf list versions
  pub contests_are : IsContestsOf list contests
  pub deps_are : AreDepsOf list deps
  pub names_are : IsTreeOf list names
  pub pseudo_are : AreRowsOf (graph_of list) pseudo
