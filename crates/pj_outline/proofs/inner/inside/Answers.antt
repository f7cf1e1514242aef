use Rattle.std.proofs.Common.{subst, arith, ◌∷◌, [], length-append}
use Rattle.std.proofs.lemmas.List.{take_all}
use Rattle.pj_outline.specs.Inner.{AreInside}
use Rattle.pj_outline.proofs.InnerRows.{inside_more, inside_same}
use Rattle.pj_outline.proofs.inner.inside.Goals.{then-is_inside+in_ok-push, else-is_inside}
use Rattle.pj_outline.proofs.inner.inside.Goals as goal

pub loop-point-preserved : goal.loop-point-preserved
loop-point-preserved c =
    let few = c.loop-point.invariant.few in
    elim c.if-is_inside.branch [
      | then-is_inside+in_ok-push w ↦ rw (w.list-is, w.in_ok-push.ensures.items) (record {
        inside = inside_more c.args.cuts.now c.args.points.now c.loop-point.point-index c.point-item.result c.loop-point-test.true c.point-item.is c.loop-point.list.items
            (c.is_inside.ensures.inside w.if-is_inside.true) c.loop-point.invariant.inside;
        few = omega (arith, few, length-append c.loop-point.list.items (c.point-item.result ∷ []));
      })
      | else-is_inside w ↦ rw w.list-is (record {
        inside = inside_same c.args.cuts.now c.args.points.now c.loop-point.point-index c.point-item.result c.loop-point-test.true c.point-item.is c.loop-point.list.items
            (c.is_inside.ensures.not_inside w.if-is_inside.false) c.loop-point.invariant.inside;
        few = omega (arith, few);
      })
    ]

pub returns-clause-inside : goal.returns-clause-inside
returns-clause-inside c = subst (λ l. AreInside c.args.cuts.now l c.loop-point.list.items) (take_all c.loop-point.point-index c.args.points.now (omega (arith, c.loop-point-test.false))) c.loop-point.invariant.inside
