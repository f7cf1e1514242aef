-- Rows of the indexes: what stands at a place, and by whom.
use Rattle.std.specs.Prelude.{false, Option, Some}
use Rattle.std.specs.Option.{option_cmp}
use Rattle.std.specs.Ordering.{on, then_cmp, bool_cmp}
use Rattle.std.specs.declared.cmp.Ordering.{Ordering}
use Rattle.pj_name.specs.declared.name.Name.{Name}
use Rattle.pj_name.specs.Name.{name_cmp}
use Rattle.pj_change.specs.declared.point.Point.{Point}
use Rattle.pj_change.specs.Graph.{point_cmp}
use Rattle.pj_contest.specs.declared.marks.UpMark.{UpMark}
use Rattle.pj_contest.specs.declared.marks.BaseMark.{BaseMark}
use Rattle.pj_contest.specs.declared.marks.ChildMark.{ChildMark}

-- ---- ups

-- by the up, then by the name of the change that inserts after it
abbrev pub up_cmp : UpMark → UpMark → Ordering
up_cmp = then_cmp (on (λ m. m.at) point_cmp) (on (λ m. m.by) (option_cmp name_cmp))

-- the row of this up, by the change of this name
abbrev pub up_row : Point → Name → UpMark
up_row at by = record { at = at; by = Some by }

-- ---- bases

-- by the file or the parent; there the lower bound, the rows by the name of the change that builds on it, the upper bound
abbrev pub base_cmp : BaseMark → BaseMark → Ordering
base_cmp = then_cmp (on (λ m. m.at) (option_cmp point_cmp)) (then_cmp (on (λ m. m.past) bool_cmp) (on (λ m. m.by) (option_cmp name_cmp)))

-- the row of this base, by the change of this name
abbrev pub base_row : Option Point → Name → BaseMark
base_row at by = record { at = at; past = false; by = Some by }

-- ---- children

-- by the child; there the lower bound, the rows by the name that it has, the upper bound
abbrev pub child_cmp : ChildMark → ChildMark → Ordering
child_cmp = then_cmp (on (λ m. m.at) (option_cmp point_cmp)) (then_cmp (on (λ m. m.past) bool_cmp) (on (λ m. m.by) (option_cmp point_cmp)))

-- the row of this child, by this name of it
abbrev pub name_row : Option Point → Point → ChildMark
name_row at by = record { at = at; past = false; by = Some by }
