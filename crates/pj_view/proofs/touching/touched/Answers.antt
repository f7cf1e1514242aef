use Rattle.std.proofs.Common.{◌∙◌, sym, subst}
use Rattle.std.specs.Prelude.{Contains}
use Rattle.pj_change.proofs.Members.{moved}
use Rattle.pj_change.specs.declared.point.Point.{Point}
use Rattle.pj_dead.specs.Searches.{GoesOn}
use Rattle.pj_view.specs.Added.{HasAdded, IsBefore, IsBesideAt, IsDeadAt, IsOldEnd, StandsToOne}
use Rattle.pj_view.specs.Touched.{AreTouchedBy}
use Rattle.pj_view.proofs.EnoughPoints.{all_met}
use Rattle.pj_view.proofs.TouchedParts.{all_enough, new_listed}
use Rattle.pj_view.proofs.touching.touched.Goals as goal

pub starts-requires-clause-cuts : goal.starts-requires-clause-cuts
starts-requires-clause-cuts c p n =
    rw c.deref-2.ensures.value (new_listed c.args.without.now c.args.change.now c.deref.result.now c.in_ok-cuts-2.cuts.items (c.deref.ensures.value ∙ c.in_ok-cuts.ensures) c.in_ok-cuts-2.ensures p n)

pub returns : goal.returns
returns c =
    let S = c.args.without.now in
    let i = c.args.change.now in
    let cuts = c.in_ok-cuts-2.cuts.items in
    let rows = c.in_ok-rows.rows.items in
    let starts = c.in_ok-starts.starts in
    let none = c.new-near.result.items in
    let first = c.add_all_beside.new.points.items in
    let second = c.add_before.new.points.items in
    let third = c.add_rows.new.points.items in
    let once : (p : Point) → Contains third p → Contains c.in_ok-once.once p = λ p m. (c.in_ok-once.ensures p).1 (moved p (sym c.deref-5.ensures.value) m) in
    let enough = all_enough S i starts cuts rows (new_listed S i c.deref.result.now cuts (c.deref.ensures.value ∙ c.in_ok-cuts.ensures) c.in_ok-cuts-2.ensures) c.in_ok-rows.ensures
    none first second third c.in_ok-once.once c.in_ok-both.both c.in_ok-points.points
    (subst (λ l. HasAdded none first (StandsToOne l (IsBesideAt S))) c.points.ensures c.in_ok-add_all_beside.ensures)
    (subst (λ l. HasAdded first second (StandsToOne l IsBefore)) c.deref-3.ensures.value c.in_ok-add_before.ensures)
    (subst (λ l. HasAdded second third (StandsToOne l (IsOldEnd i.name))) c.deref-4.ensures.value c.in_ok-add_rows.ensures)
    once (subst (λ l. GoesOn (Contains l) starts c.in_ok-both.both) c.deref-6.ensures.value c.in_ok-both.ensures)
    (subst (λ l. HasAdded c.in_ok-both.both c.in_ok-points.points (StandsToOne l (IsDeadAt S))) c.points-2.ensures c.in_ok-points.ensures) in
    subst (AreTouchedBy S i) (sym c.into_points.ensures) (λ T lawful more. all_met S c.list-list.ensures.lawful i starts _ c.in_ok-starts.ensures enough T lawful more)
