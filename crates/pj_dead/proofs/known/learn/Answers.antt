use Rattle.std.proofs.Common.{◌∙◌, subst, List}
use Rattle.pj_change.specs.declared.point.Point.{Point}
use Rattle.pj_change.proofs.Members.{moved}
use Rattle.pj_dead.specs.declared.near.Way.TheVariants.{Ahead, Back}
use Rattle.pj_dead.specs.declared.known.Neighbours.{Neighbours}
use Rattle.pj_dead.specs.Known.{AreSides, AreNeighbours}
use Rattle.pj_dead.proofs.Searching.{near_vertex}
use Rattle.pj_dead.proofs.Knowing.{neighbours_more}
use Rattle.pj_dead.proofs.known.learn.Goals as goal

pub split-requires-clause-vertices : goal.split-requires-clause-vertices
split-requires-clause-vertices g c = λ v m.
    let h = g.V.View.graph c.args.view.now in
    near_vertex h (g.met.V.View.lawful c.args.view.now) Ahead c.args.at v c.requires.vertex (moved v (c.deref.ensures.value ∙ c.in_ok-after.ensures) m)

pub split-requires-2-clause-vertices : goal.split-requires-2-clause-vertices
split-requires-2-clause-vertices g c = λ v m.
    let h = g.V.View.graph c.args.view.now in
    near_vertex h (g.met.V.View.lawful c.args.view.now) Back c.args.at v c.requires.vertex (moved v (c.deref-2.ensures.value ∙ c.in_ok-before.ensures) m)

pub returns-clause-known : goal.returns-clause-known
returns-clause-known g c =
    let h = g.V.View.graph c.args.view.now in
    let n : Neighbours = record { outs = c.in_ok-outs.outs; ins = c.in_ok-ins.ins } in
    let are : AreNeighbours h c.args.at n = record {
      outs = subst (λ (l : List Point). AreSides h l c.in_ok-outs.outs) (c.deref.ensures.value ∙ c.in_ok-after.ensures) c.in_ok-outs.ensures.sides;
      ins = subst (λ (l : List Point). AreSides h l c.in_ok-ins.ins) (c.deref-2.ensures.value ∙ c.in_ok-before.ensures) c.in_ok-ins.ensures.sides;
    } in
    neighbours_more h c.split-2.new.known c.in_ok-ins.ensures.known c.args.at c.insert.new.self n are c.in_ok-insert.ensures.updates
