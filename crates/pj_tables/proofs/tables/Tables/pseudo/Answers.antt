use Rattle.std.proofs.Common.{List, sym, subst}
use Rattle.std.specs.Arc.{arc_value}
use Rattle.pj_change.specs.declared.change.Record.{Record}
use Rattle.pj_dead.specs.Pseudo.{AreRowsOf}
use Rattle.pj_view.specs.SetGraph.{graph_of}
use Rattle.pj_tables.proofs.PseudoRows.{pseudo_rows}
use Rattle.pj_tables.proofs.tables.Tables.pseudo.Goals as goal

pub returns-clause-rows : goal.returns-clause-rows
returns-clause-rows c =
    subst (AreRowsOf (graph_of c.args.self.now)) (sym c.deref.ensures)
    (subst (λ (l : List Record). AreRowsOf (graph_of l) (arc_value c.self.inside.pseudo)) c.self.view_is c.self.invariant.pseudo_are)

pub returns-clause-pseudo : goal.returns-clause-pseudo
returns-clause-pseudo c =
    pseudo_rows c.rows_are_pseudo_rows.ensures c.graphs_are_whole.ensures c.graphs_are_views.ensures c.args.self.now c.list-list.ensures.lawful _
    (subst (AreRowsOf (graph_of c.args.self.now)) (sym c.deref.ensures)
    (subst (λ (l : List Record). AreRowsOf (graph_of l) (arc_value c.self.inside.pseudo)) c.self.view_is c.self.invariant.pseudo_are))
