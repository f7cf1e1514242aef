use Rattle.std.proofs.Common.{◌↔◌, sym, arith, subst, take}
use Rattle.std.specs.Prelude.{Contains}
use Rattle.std.proofs.lemmas.List.Elements.{Contains-get_or}
use Rattle.pj_change.specs.declared.point.Point.{Point}
use Rattle.pj_change.proofs.Members.{moved}
use Rattle.pj_dead.specs.PointGraphs.{IsDead}
use Rattle.pj_dead.specs.Touched.{IsTouched}
use Rattle.pj_dead.proofs.TouchedRows.{sets_next, sets_all}
use Rattle.pj_dead.proofs.touched.touched_rows.Goals as goal

pub with_set-requires-clause-dead : goal.with_set-requires-clause-dead
with_set-requires-clause-dead g c =
    let starts = c.points-at-items.result.now in
    let at = c.at-item.result in
    let there : Contains starts at = subst (Contains starts) (sym c.at-item.is) (Contains-get_or starts c.loop-at.at-index at c.loop-at-test.true) in
    ((c.in_ok-starts.ensures.dead at).0 (moved at c.points-at-items.ensures there)).1

pub loop-at-preserved : goal.loop-at-preserved
loop-at-preserved g c =
    let h = g.V.View.graph c.args.view.now in
    let starts = c.points-at-items.result.now in
    let at = c.at-item.result in
    let i = c.loop-at.at-index in
    record {
      sets = sets_next h starts c.in_ok-sets.sets.seen c.in_ok-sets.sets.rows.items i at at c.loop-at-test.true c.at-item.is (c.in_ok-sets.ensures.more (take i starts) c.loop-at.invariant.sets);
      known = c.in_ok-sets.ensures.known;
    }

pub returns : goal.returns
returns g c =
    let h = g.V.View.graph c.args.view.now in
    let starts = c.points-at-items.result.now in
    let are : (v : Point) → Contains starts v ↔ (IsTouched h c.args.touched.now v × IsDead h v) = rw c.points-at-items.ensures c.in_ok-starts.ensures.dead in
    sets_all h starts c.loop-at.sets.seen c.loop-at.sets.rows.items c.loop-at.at-index (omega arith) c.loop-at.invariant.sets (IsTouched h c.args.touched.now) are
