use Rattle.std.proofs.Common.{◌≤◌, length, take}
use Rattle.pj_outline.specs.Inner.{AreUncut}
use Rattle.pj_outline.proofs.inner.uncut.Given as goal

-- those of the first points are there
abbrev pub invariant-loop-point : goal.invariant-loop-point
invariant-loop-point l = record {
  uncut : AreUncut l.cuts (take l.point-index l.points) l.list.items;
  few : length l.list.items ≤ l.point-index;
}
