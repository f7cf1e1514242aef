use Rattle.std.proofs.Common.{◌∙◌, ◌++◌, ap, inl, inr}
use Rattle.std.specs.Prelude.{Contains}
use Rattle.pj_view.specs.Added.{IsNeighbour}
use Rattle.pj_view.specs.SetGraph.{graph_of}
use Rattle.pj_view.proofs.Additions.{member_stays, both_added, fewer_added, some_added}
use Rattle.pj_view.proofs.touching.add_neighbours.Goals as goal

pub returns-then-not-ins_too : goal.returns-then-not-ins_too
returns-then-not-ins_too c =
    let g = graph_of c.args.view.now in
    let v = c.args.vertex in
    let old = c.args.points.now.items in
    let outs = some_added old _ (g.outs v) (c.in_ok-extend_from_slice.ensures.items ∙ ap (λ l. old ++ l) (c.deref.ensures.value ∙ c.in_ok-outs.ensures)) in
    fewer_added old _ (Contains (g.outs v)) (IsNeighbour c.args.view.now v c.args.ins_too) (λ p k. elim k [ inl m ↦ m | inr b ↦ absurd (let wanted = b.0 in cc) ]) outs

pub returns : goal.returns
returns c =
    let g = graph_of c.args.view.now in
    let v = c.args.vertex in
    let old = c.args.points.now.items in
    let middle = c.extend_from_slice.new.self.items in
    both_added member_stays old middle _ (Contains (g.outs v)) (Contains (g.ins v)) (IsNeighbour c.args.view.now v c.args.ins_too)
    (some_added old middle (g.outs v) (c.in_ok-extend_from_slice.ensures.items ∙ ap (λ l. old ++ l) (c.deref.ensures.value ∙ c.in_ok-outs.ensures)))
    (some_added middle _ (g.ins v) (c.in_ok-extend_from_slice-2.ensures.items ∙ ap (λ l. middle ++ l) (c.deref-2.ensures.value ∙ c.in_ok-ins.ensures))) (λ p k. elim k [ inl m ↦ inl m | inr b ↦ inr b.1 ])
