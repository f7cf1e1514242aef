use Rattle.std.proofs.Common.{◌≡◌, ◌<◌, ◌∙◌, ⊎_elim, true, length, sym, subst, take}
use Rattle.std.specs.Prelude.{Contains, Option}
use Rattle.std.proofs.lemmas.List.{take_all}
use Rattle.pj_change.specs.declared.point.Point.{Point}
use Rattle.pj_change.proofs.Members.{no_member}
use Rattle.pj_rows.specs.Keys.{has}
use Rattle.pj_contest.specs.Marks.{child_cmp, name_row}
use Rattle.pj_contest.proofs.MarkOrder.{place_tied}
use Rattle.pj_contest.proofs.Walks.{taken_cases}
use Rattle.pj_contest.proofs.search.sought.Goals as goal

pub distinct-requires : goal.distinct-requires
distinct-requires c = place_tied

pub loop-child-init : goal.loop-child-init
loop-child-init c = record {
  ups = λ p m. subst (λ ps. Contains ps p) (sym c.in_ok-points.ensures) m;
  names = λ k m. absurd (no_member k m);
}

pub loop-child-preserved : goal.loop-child-preserved
loop-child-preserved c =
    let all = c.deref-child-items.result.now in
    let i = c.loop-child.child-index in
    let low : i < length all = c.loop-child-test.true in
    record {
      ups = λ p m. c.in_ok-points-2.ensures.kept p (c.loop-child.invariant.ups p m);
      names = λ k m q there. ⊎_elim
          (λ (n : Contains (take i all) k). c.in_ok-points-2.ensures.kept q (c.loop-child.invariant.names k n q there))
          (λ (e : c.child-item.result ≡ k). c.in_ok-points-2.ensures.names q (subst (λ (z : Option Point). has child_cmp (name_row z q) c.args.children.now ≡ true) (sym e) there))
          (taken_cases all i c.child-item.result low (sym c.child-item.is) k m);
    }

pub returns : goal.returns
returns c =
    let all = c.deref-child-items.result.now in
    let whole : take c.loop-child.child-index all ≡ all = take_all _ _ c.loop-child-test.false in
    record {
      ups = c.loop-child.invariant.ups;
      names = λ k m q there.
          let base : Contains c.deref.result.now k = subst (λ ks. Contains ks k) (sym (c.deref.ensures.value ∙ c.in_ok-all.ensures)) m in
          let each : Contains all k = subst (λ ks. Contains ks k) (sym c.deref-child-items.ensures.value) ((c.in_ok-each.ensures.same k).1 base) in
          c.loop-child.invariant.names k (subst (λ ks. Contains ks k) (sym whole) each) q there;
    }
