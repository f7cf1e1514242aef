-- The rows of the graph of a lawful list are its pseudo rows.
use Rattle.std.specs.Prelude.{List, ◌↔◌}
use Rattle.pj_change.specs.declared.change.Record.{Record}
use Rattle.pj_change.specs.Lawful.{IsLawful}
use Rattle.pj_change.specs.PseudoRows.{IsPseudoRow}
use Rattle.pj_change.proofs.LawfulLists.{set_of}
use Rattle.pj_dead.specs.declared.row.PseudoRow.{PseudoRow}
use Rattle.pj_rows.specs.declared.values.Here.{Here}
use Rattle.pj_dead.specs.Laws.{RowsArePseudoRows}
use Rattle.pj_dead.specs.Pseudo.{AreRowsOf, HasRow}
use Rattle.pj_view.specs.Laws.{GraphIsView, GraphIsWhole}
use Rattle.pj_view.specs.SetGraph.{graph_of}

-- what a map with the rows of the graph of a lawful list has are the pseudo rows of the list
pub pseudo_rows : RowsArePseudoRows → GraphIsWhole → GraphIsView → (S : List Record) → IsLawful S → (rows : List (PseudoRow × Here)) → AreRowsOf (graph_of S) rows
    → (row : PseudoRow) → HasRow rows row ↔ IsPseudoRow S row.least row.source row.target
pseudo_rows law whole view S lawful rows are row =
    let of_set = law S (graph_of S) (set_of S lawful) (whole S) (view S lawful) row in
    (λ has. of_set.0 ((are row).0 has), λ is. (are row).1 (of_set.1 is))
