use Rattle.std.proofs.Common.{sym, subst}
use Rattle.std.specs.Prelude.{Contains}
use Rattle.pj_change.specs.declared.point.Point.{Point}
use Rattle.pj_change.proofs.Members.{moved}
use Rattle.pj_view.specs.Added.{HasEntries, IsCovered, StandsToOne}
use Rattle.pj_view.proofs.Additions.{entry_stays}
use Rattle.pj_view.proofs.TouchedParts.{all_starts}
use Rattle.pj_view.proofs.touching.starts.Goals as goal

pub returns : goal.returns
returns c =
    let S = c.args.view.now in
    let i = c.args.change.now in
    let hunks = subst (λ l. HasEntries S l c.add_hunks.new.points.items (StandsToOne i.change.hunks (IsCovered i))) c.into_points-points.ensures c.in_ok-add_hunks.ensures in
    let all = all_starts S i c.args.contested.now (λ x. (c.requires.contested x).1) c.args.cuts.now c.requires.cuts _ _ c.add_hunks.new.points.items c.add_hunks_at.new.points.items
    c.in_ok-dead.ensures hunks c.in_ok-add_hunks_at.ensures in
    let each : (p : Point) → Contains c.add_hunks_at.new.points.items p → Contains c.in_ok-once.once p = λ p m. (c.in_ok-once.ensures p).1 (moved p (sym c.deref.ensures.value) m) in
    record { cuts = λ p new dead. each p (all.cuts p new dead); turns = λ p m. entry_stays S c.add_hunks_at.new.points.items _ each p (all.turns p m) }
