use Rattle.std.proofs.Common.{◌≡◌, true, take}
use Rattle.std.specs.Prelude.{Contains, Option}
use Rattle.pj_change.specs.declared.point.Point.{Point}
use Rattle.pj_rows.specs.Keys.{has}
use Rattle.pj_contest.specs.Marks.{child_cmp, name_row}
use Rattle.pj_contest.specs.Given.{up_points}
use Rattle.pj_contest.proofs.search.sought.Given as goal

abbrev pub invariant-loop-child : goal.invariant-loop-child
invariant-loop-child l = record {
  ups : (p : Point) → Contains (up_points l.change) p → Contains l.points.items p;
  names : (c : Option Point) → Contains (take l.child-index l.child-items) c → (q : Point) → has child_cmp (name_row c q) l.children ≡ true → Contains l.points.items q;
}
