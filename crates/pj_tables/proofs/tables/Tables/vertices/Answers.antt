use Rattle.std.proofs.Common.{sym, subst}
use Rattle.pj_change.specs.Graph.{vertex_cmp, Lists}
use Rattle.pj_tables.specs.VerticesIn.{IsVertexIn}
use Rattle.pj_tables.proofs.PointVertices.{AreUpto, none_yet, one_more, all_there}
use Rattle.pj_tables.proofs.tables.Tables.vertices.Goals as goal

pub loop-vertex-init : goal.loop-vertex-init
loop-vertex-init c = subst (AreUpto c.args.self.now c.args.change 0) (sym c.new-vertices.ensures.items) (none_yet c.args.self.now c.list-list.ensures.lawful c.args.change)

pub loop-vertex-preserved : goal.loop-vertex-preserved
loop-vertex-preserved c =
    subst (AreUpto c.args.self.now c.args.change c.in-Some.vertex.end) (sym c.in_ok-push.ensures.items)
    (one_more c.args.self.now c.list-list.ensures.lawful c.args.change c.loop-vertex.offset c.loop-vertex.vertices.items c.loop-vertex.invariant c.in-Some.vertex c.in-Some.ensures)

pub returns : goal.returns
returns c =
    subst (Lists vertex_cmp (IsVertexIn c.args.self.now c.args.change)) (sym c.of.ensures)
    (all_there c.args.self.now c.list-list.ensures.lawful c.args.change c.loop-vertex.offset c.loop-vertex.vertices.items c.loop-vertex.invariant c.in_default.ensures)
