use Rattle.std.proofs.Common.{◌≡◌, ◌≤◌, ◌+◌, take}
use Rattle.pj_change.specs.declared.point.Point.{Point}
use Rattle.pj_cuts.specs.Counted.{count_at}
use Rattle.pj_cuts.specs.CutsOf.{count_in}
use Rattle.pj_cuts.proofs.cuts.Cuts.without_cuts.Given as goal

abbrev pub invariant-loop-point : goal.invariant-loop-point
invariant-loop-point g l = record {
  counts : (p : Point) → count_at l.now p + count_in (take l.point-index l.points) p ≡ count_at l.fn.self p;
  blocks : l.now.blocks ≡ l.fn.self.blocks;
  cost : l.steps ≤ l.fn.steps + l.point-index;
}
