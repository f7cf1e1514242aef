-- What a search for the deletions that a change contests looks at.
use Rattle.std.specs.Prelude.{◌≡◌, Bool, false, true, ◌&&◌, List, Option, Contains}
use Rattle.std.specs.List.{list_any}
use Rattle.pj_name.specs.Name.{same_name}
use Rattle.pj_change.specs.declared.point.Point.{Point}
use Rattle.pj_change.specs.declared.change.Record.{Record}
use Rattle.pj_change.specs.Contested.{contests, deleted_at}
use Rattle.pj_ranges.specs.declared.range.RangeAt.{RangeAt}
use Rattle.pj_ranges.specs.Over.{has_range}
use Rattle.pj_rows.specs.declared.values.Here.{Here}
use Rattle.pj_rows.specs.Keys.{has}
use Rattle.pj_contest.specs.declared.marks.ChildMark.{ChildMark}
use Rattle.pj_contest.specs.Marks.{name_row, child_cmp}
use Rattle.pj_contest.specs.Given.{up_points, bases, child_rows, deleted_ranges}
use Rattle.pj_contest.specs.Contests.{Rows, knows_more}

-- these points have all the ups of the change, and all the names of what it builds on
pub record AreSought (r : Record) (children : List (ChildMark × Here)) (points : List Point) : Type 0 where
  pub ups : (p : Point) → Contains (up_points r) p → Contains points p
  pub names : (c : Option Point) → Contains (bases r) c → (q : Point) → has child_cmp (name_row c q) children ≡ true → Contains points q

-- the indexes have the names and the ranges of the changes of S
pub record HasRowsOf (S : List Record) (t : Rows) : Type 0 where
  pub names : (r : Record) → Contains S r → (k : ChildMark) → Contains (child_rows r) k → has child_cmp k t.children ≡ true
  pub deleted : (r : Record) → Contains S r → (q : RangeAt) → Contains (deleted_ranges r) q → has_range t.ranges q ≡ true

-- a change of S deletes the range
pub record IsOfOne (S : List Record) (q : RangeAt) : Type 0 where
  pub it : Record
  pub member : Contains S it
  pub deleted : Contains (deleted_ranges it) q

-- each range of the indexes is one that a change of S deletes
abbrev pub HasOnlyRangesOf : List Record → Rows → Type 0
HasOnlyRangesOf S t = (q : RangeAt) → has_range t.ranges q ≡ true → IsOfOne S q

-- no change of S knows others beside its needs
abbrev pub KnowNoMore : List Record → Type 0
KnowNoMore S = (d : Record) → Contains S d → knows_more d ≡ false

-- a hunk of i works on what is deleted where the range is
abbrev pub is_worked_on : List Record → RangeAt → Record → Bool
is_worked_on S q i = list_any (λ o. same_name o.name q.owner && list_any (contests i o.name q.start q.end (deleted_at o q.start)) i.change.hunks) S
