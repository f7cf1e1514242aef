use Rattle.std.proofs.Common.{take}
use Rattle.pj_view.specs.Added.{HasEntries, StandsToOne, IsCoveredAt}
use Rattle.pj_view.specs.Stretches.{HasStretches}
use Rattle.pj_view.proofs.touching.add_hunks_at.Given as goal

abbrev pub invariant-loop-at : goal.invariant-loop-at
invariant-loop-at l = record {
  points : HasEntries l.view l.initial.points.items l.points.items (StandsToOne (take l.at-index l.hunks) (IsCoveredAt l.view));
  stretches : HasStretches l.view l.points.items l.added;
}
