use Rattle.std.proofs.Common.{◌≡◌, sym, ◌∙◌, arith}
use Rattle.pj_change.specs.declared.point.Point.{Point}
use Rattle.pj_change.proofs.Gathering.{gathers_one, of_more, of_all}
use Rattle.pj_dead.proofs.across.add_lasts.Goals as goal

pub loop-vertex-preserved : goal.loop-vertex-preserved
loop-vertex-preserved g c =
    let h = g.V.View.graph c.args.view.now in
    let P : Point → Point → Type 0 = λ v z. h.last v ≡ z in
    let vertex = c.vertex-item.result in
    of_more P c.args.vertices.now c.loop-vertex.vertex-index vertex vertex c.loop-vertex-test.true c.vertex-item.is c.args.list.now.items c.loop-vertex.list.items c.push.new.self.items c.loop-vertex.invariant
    (gathers_one (P vertex) c.last.result c.loop-vertex.list.items c.push.new.self.items c.in_ok-push.ensures.items (sym c.last.ensures) (λ x e. sym e ∙ sym c.last.ensures))

pub returns : goal.returns
returns g c =
    let h = g.V.View.graph c.args.view.now in
    let P : Point → Point → Type 0 = λ v z. h.last v ≡ z in
    of_all P c.args.vertices.now c.loop-vertex.vertex-index (omega arith) c.args.list.now.items c.loop-vertex.list.items c.loop-vertex.invariant
