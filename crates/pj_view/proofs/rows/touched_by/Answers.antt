use Rattle.std.proofs.Common.{List, subst}
use Rattle.pj_change.specs.declared.point.Point.{Point}
use Rattle.pj_dead.specs.Touched.{AreTouchedRows}
use Rattle.pj_view.specs.SetGraph.{graph_of}
use Rattle.pj_view.proofs.rows.touched_by.Goals as goal

pub returns : goal.returns
returns c = record {
  points = c.in_ok-points.ensures;
  rows = subst (λ (points : List Point). AreTouchedRows (graph_of c.args.without.now) points c.in_ok-rows.rows.items) c.deref.ensures.value c.in_ok-rows.ensures;
}
