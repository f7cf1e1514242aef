-- A set of rows as two lists of keys, and the next row of a source or of a target.
use Rattle.std.specs.Prelude.{◌≡◌, Bool, true, false, List, Option, Some, None}
use Rattle.std.specs.Ordering.{is_lt}
use Rattle.std.specs.declared.cmp.Ordering.TheVariants.{Less}
use Rattle.pj_change.specs.declared.point.Point.{Point}
use Rattle.pj_change.specs.declared.point.Place.{Place}
use Rattle.pj_change.specs.declared.row.EdgeRow.{EdgeRow}
use Rattle.pj_pmap.specs.Pairs.{IsRising}
use Rattle.pj_rows.specs.declared.values.Here.{Here}
use Rattle.pj_rows.specs.Keys.{has}
use Rattle.pj_edges.specs.declared.keys.OutRow.{OutRow}
use Rattle.pj_edges.specs.declared.keys.IntoRow.{IntoRow}
use Rattle.pj_edges.specs.Orders.{out_cmp, into_cmp, out_row, into_row}

-- the rows by source, and by target
pub record Rows : Type 0 where
  pub out : List (OutRow × Here)
  pub into : List (IntoRow × Here)

-- the row is among those by source
abbrev pub has_out : List (OutRow × Here) → EdgeRow → Bool
has_out out r = has out_cmp (out_row r) out

-- the row is among those by target
abbrev pub has_into : List (IntoRow × Here) → EdgeRow → Bool
has_into into r = has into_cmp (into_row r) into

-- the row is there
abbrev pub has_row : Rows → EdgeRow → Bool
has_row e r = has_out e.out r

-- what is kept: both lists have the same rows
pub record HasRows (out : List (OutRow × Here)) (into : List (IntoRow × Here)) : Type 0 where
  pub out_rises : IsRising out_cmp out
  pub into_rises : IsRising into_cmp into
  pub same : (r : EdgeRow) → has_into into r ≡ has_out out r

-- ---- the rows of a source

-- the row has the source, if there is one
abbrev pub IsOutOf : Place → Option EdgeRow → Type 0
IsOutOf source None = Unit {0}
IsOutOf source (Some r) = r.source ≡ source

-- a row comes after the other by source, as all do where there is no other
abbrev pub IsOutAfter : Option EdgeRow → EdgeRow → Type 0
IsOutAfter None q = Unit {0}
IsOutAfter (Some r) q = out_cmp (out_row r) (out_row q) ≡ Less

-- the first row of the source among those that come after
pub record IsNextOut (e : Rows) (source : Place) (After : EdgeRow → Type 0) (r : EdgeRow) : Type 0 where
  pub there : has_row e r ≡ true
  pub of_source : r.source ≡ source
  pub after : After r
  pub first : (q : EdgeRow) → has_row e q ≡ true → q.source ≡ source → After q → is_lt (out_cmp (out_row q) (out_row r)) ≡ false

-- no row of the source comes after
abbrev pub NoneOut : Rows → Place → (EdgeRow → Type 0) → Type 0
NoneOut e source After = (q : EdgeRow) → has_row e q ≡ true → q.source ≡ source → After q → ⊥

-- ---- the rows of a target

-- the row has the target, if there is one
abbrev pub IsInto : Point → Option EdgeRow → Type 0
IsInto target None = Unit {0}
IsInto target (Some r) = r.target ≡ target

-- a row comes after the other by target, as all do where there is no other
abbrev pub IsIntoAfter : Option EdgeRow → EdgeRow → Type 0
IsIntoAfter None q = Unit {0}
IsIntoAfter (Some r) q = into_cmp (into_row r) (into_row q) ≡ Less

-- the first row of the target among those that come after
pub record IsNextInto (e : Rows) (target : Point) (After : EdgeRow → Type 0) (r : EdgeRow) : Type 0 where
  pub there : has_row e r ≡ true
  pub of_target : r.target ≡ target
  pub after : After r
  pub first : (q : EdgeRow) → has_row e q ≡ true → q.target ≡ target → After q → is_lt (into_cmp (into_row q) (into_row r)) ≡ false

-- no row of the target comes after
abbrev pub NoneInto : Rows → Point → (EdgeRow → Type 0) → Type 0
NoneInto e target After = (q : EdgeRow) → has_row e q ≡ true → q.target ≡ target → After q → ⊥
