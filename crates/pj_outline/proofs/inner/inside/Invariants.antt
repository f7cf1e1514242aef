use Rattle.std.proofs.Common.{◌≤◌, length, take}
use Rattle.pj_outline.specs.Inner.{AreInside}
use Rattle.pj_outline.proofs.inner.inside.Given as goal

-- those of the first points are there
abbrev pub invariant-loop-point : goal.invariant-loop-point
invariant-loop-point l = record {
  inside : AreInside l.cuts (take l.point-index l.points) l.list.items;
  few : length l.list.items ≤ l.point-index;
}
