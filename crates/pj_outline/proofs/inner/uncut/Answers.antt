use Rattle.std.proofs.Common.{◌∙◌, sym, subst, arith, ◌∷◌, [], length-append}
use Rattle.std.proofs.lemmas.List.{take_all}
use Rattle.pj_outline.specs.Inner.{AreUncut}
use Rattle.pj_outline.proofs.InnerRows.{uncut_more, uncut_same}
use Rattle.pj_outline.proofs.inner.uncut.Goals.{then-count-eq0+in_ok-push, else-count-eq0}
use Rattle.pj_outline.proofs.inner.uncut.Goals as goal

pub loop-point-preserved : goal.loop-point-preserved
loop-point-preserved c =
    let few = c.loop-point.invariant.few in
    elim c.if-count-eq0.branch [
      | then-count-eq0+in_ok-push w ↦ rw (w.list-is, w.in_ok-push.ensures.items) (record {
        uncut = uncut_more c.args.cuts.now c.args.points.now c.loop-point.point-index c.point-item.result c.loop-point-test.true c.point-item.is c.loop-point.list.items
            (sym c.count.ensures ∙ w.if-count-eq0.true) c.loop-point.invariant.uncut;
        few = omega (arith, few, length-append c.loop-point.list.items (c.point-item.result ∷ []));
      })
      | else-count-eq0 w ↦ rw w.list-is (record {
        uncut = uncut_same c.args.cuts.now c.args.points.now c.loop-point.point-index c.point-item.result c.loop-point-test.true c.point-item.is c.loop-point.list.items
            (λ e. w.if-count-eq0.false (c.count.ensures ∙ e)) c.loop-point.invariant.uncut;
        few = omega (arith, few);
      })
    ]

pub returns-clause-uncut : goal.returns-clause-uncut
returns-clause-uncut c = subst (λ l. AreUncut c.args.cuts.now l c.loop-point.list.items) (take_all c.loop-point.point-index c.args.points.now (omega (arith, c.loop-point-test.false))) c.loop-point.invariant.uncut
