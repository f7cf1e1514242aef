use Rattle.std.proofs.Common.{sym, subst, List}
use Rattle.pj_change.specs.declared.point.Point.{Point}
use Rattle.pj_dead.specs.Touched.{IsKept}
use Rattle.pj_view.specs.SetGraph.{graph_of}
use Rattle.pj_view.proofs.TouchedParts.{all_fit}
use Rattle.pj_view.proofs.rows.rows_without.Goals as goal

pub touched-requires-clause-fits : goal.touched-requires-clause-fits
touched-requires-clause-fits c = all_fit c.args.with.now c.list-more.ensures.lawful c.args.change.now c.requires.more.new

pub refresh-requires-clause-there : goal.refresh-requires-clause-there
refresh-requires-clause-there c =
    subst (λ (points : List Point). IsKept (graph_of c.args.with.now) (graph_of c.args.without.now) points) (sym c.deref.ensures.value)
    (c.other_dead_vertices_are_kept.ensures c.args.without.now c.args.with.now c.args.change.now c.list-fewer.ensures.lawful c.list-more.ensures.lawful c.requires.more c.in_ok-points.points.items (c.in_ok-points.ensures c.args.with.now c.list-more.ensures.lawful c.requires.more)).1

pub refresh-requires-clause-back : goal.refresh-requires-clause-back
refresh-requires-clause-back c =
    subst (λ (points : List Point). IsKept (graph_of c.args.without.now) (graph_of c.args.with.now) points) (sym c.deref.ensures.value)
    (c.other_dead_vertices_are_kept.ensures c.args.without.now c.args.with.now c.args.change.now c.list-fewer.ensures.lawful c.list-more.ensures.lawful c.requires.more c.in_ok-points.points.items (c.in_ok-points.ensures c.args.with.now c.list-more.ensures.lawful c.requires.more)).0
