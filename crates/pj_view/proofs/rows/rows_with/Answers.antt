use Rattle.std.proofs.Common.{List, subst, sym}
use Rattle.pj_change.specs.declared.point.Point.{Point}
use Rattle.pj_dead.specs.declared.row.PseudoRow.{PseudoRow}
use Rattle.pj_dead.specs.Touched.{AreTouchedRows}
use Rattle.pj_view.specs.SetGraph.{graph_of}
use Rattle.pj_view.proofs.rows.rows_with.Goals as goal

pub returns : goal.returns
returns c = λ S i was more by are.
    let T = c.args.with.now in
    let points = c.args.touched.now.points.items in
    let lawful = c.list-more.ensures.lawful in
    let kept = c.other_dead_vertices_are_kept.ensures S T i was lawful more points (by.points T lawful more) in
    let made = subst (λ (ps : List Point). AreTouchedRows (graph_of T) ps c.in_ok-made.made.items) c.deref.ensures.value c.in_ok-made.ensures in
    c.in_ok-new.ensures (graph_of S) (graph_of T) points (c.graphs_are_whole.ensures S) (c.graphs_are_whole.ensures T) kept.0 kept.1 are
    (subst (λ (rows : List PseudoRow). AreTouchedRows (graph_of S) points rows) (sym c.deref-2.ensures.value) by.rows)
    (subst (λ (rows : List PseudoRow). AreTouchedRows (graph_of T) points rows) (sym c.deref-3.ensures.value) made)
