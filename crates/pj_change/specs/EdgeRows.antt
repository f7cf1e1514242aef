-- The real edges of a set S without their statuses, each a row. A hunk says its own rows, whatever else is in S;
-- the rows inside its block stand where S cuts.
use Rattle.std.specs.Prelude.{◌≡◌, ℕ, ◌+◌, ◌-◌, ◌<◌, Bool, true, false, ◌&&◌, IsTrue, List, length, Option, Some, Contains, ◌⊎◌, slice_get, if◌then◌else◌}
use Rattle.std.specs.List.{list_any}
use Rattle.pj_name.specs.Name.{same_name}
use Rattle.pj_change.specs.declared.point.Point.{Point}
use Rattle.pj_change.specs.declared.point.Place.{Place}
use Rattle.pj_change.specs.declared.point.Place.TheVariants as placed
use Rattle.pj_change.specs.declared.point.Ref.{Ref}
use Rattle.pj_change.specs.declared.hunk.Hunk.{Hunk}
use Rattle.pj_change.specs.declared.hunk.Hunk.TheVariants.{File, Dir, NameOf, Insert, Order, Delete, Revive}
use Rattle.pj_change.specs.declared.kind.Kind.{Kind}
use Rattle.pj_change.specs.declared.kind.Kind.TheVariants.{NameAt}
use Rattle.pj_change.specs.declared.graph.Status.{Status}
use Rattle.pj_change.specs.declared.graph.Status.TheVariants.{Alive}
use Rattle.pj_change.specs.declared.graph.Label.{Label}
use Rattle.pj_change.specs.declared.graph.Label.TheVariants as label
use Rattle.pj_change.specs.declared.graph.Edge.{Edge}
use Rattle.pj_change.specs.declared.row.EdgeRow.{EdgeRow}
use Rattle.pj_change.specs.declared.change.Record.{Record}
use Rattle.pj_change.specs.Positions.{kind_at, place, resolve, own_point}
use Rattle.pj_change.specs.Status.{status_of}
use Rattle.pj_change.specs.Vertices.{is_cut}

-- an edge without its status
abbrev pub row_of : Edge → EdgeRow
row_of e = record { source = e.source; target = e.target; label = e.label; introducer = e.introducer }

-- an edge with this status
abbrev pub with_status : EdgeRow → Status → Edge
with_status row status = record { source = row.source; target = row.target; label = row.label; status = status; introducer = row.introducer }

-- ---- the rows

-- r says with this label that an edge leads from one place to another
pub record IsRow (r : Record) (source target : Place) (l : Label) (row : EdgeRow) : Type 0 where
  pub from : row.source ≡ source
  pub to : placed.At row.target ≡ target
  pub labelled : row.label ≡ l
  pub by : row.introducer ≡ r.name

-- from the parent to the name at a position of r, or from the name to its child
abbrev pub IsNameRow : Record → ℕ → Place → Place → EdgeRow → Type 0
IsNameRow r offset parent child row =
    IsRow r parent (placed.At (own_point r offset)) label.Folder row ⊎ IsRow r (placed.At (own_point r offset)) child label.Folder row

-- a row of its own of the hunk of r whose first position is first
abbrev pub IsOwnRow : Record → ℕ → Hunk → EdgeRow → Type 0
IsOwnRow r first (File parent name exec) row = IsNameRow r first (resolve r parent) (placed.At (own_point r (first + 1))) row
IsOwnRow r first (Dir parent name) row = IsNameRow r first (resolve r parent) (placed.At (own_point r (first + 1))) row
IsOwnRow r first (NameOf parent child name exec) row = IsNameRow r first (resolve r parent) (resolve r child) row
IsOwnRow r first (Insert file ups downs bytes) row =
    ((up : Ref) × Contains ups up × IsRow r (resolve r up) (placed.At (own_point r first)) label.Block row)
    ⊎ ((down : Ref) × Contains downs down × IsRow r (placed.At (own_point r (first + length bytes - 1))) (resolve r down) label.Order row)
IsOwnRow r first (Order file source target) row = IsRow r (resolve r source) (resolve r target) label.Order row
IsOwnRow r first (Delete owner start end by) row = ⊥
IsOwnRow r first (Revive owner start end by) row = ⊥

-- the hunk with this first position has a block, and the position is one of it after the first
abbrev pub IsInside : ℕ → Hunk → ℕ → Type 0
IsInside first (Insert file ups downs bytes) at = (first < at) × (at < first + length bytes)
IsInside first h at = ⊥

-- the row that leads within a block of r to a position, from the one before
abbrev pub inner_row : Record → ℕ → EdgeRow
inner_row r at = record { source = placed.At (own_point r (at - 1)); target = own_point r at; label = label.Block; introducer = r.name }

-- a position inside the block of the hunk, where S cuts and to which the row leads
pub record IsInnerRow (S : List Record) (r : Record) (first : ℕ) (h : Hunk) (row : EdgeRow) : Type 0 where
  pub at : ℕ
  pub inner : IsInside first h at
  pub cut : IsTrue (is_cut S (own_point r at))
  pub is : row ≡ inner_row r at

-- a row of S
pub record IsEdgeRow (S : List Record) (row : EdgeRow) : Type 0 where
  pub introducer : Record
  pub member : Contains S introducer
  pub number : ℕ
  pub hunk : Hunk
  pub there : slice_get introducer.change.hunks number ≡ Some hunk
  pub is : IsOwnRow introducer (place introducer.change.hunks number) hunk row ⊎ IsInnerRow S introducer (place introducer.change.hunks number) hunk row

-- ---- the status of an edge

-- a name
abbrev pub is_name_kind : Option Kind → Bool
is_name_kind (Some (NameAt hunk)) = true
is_name_kind kind = false

-- a change of S has a name at the point
abbrev pub is_name_point : List Record → Point → Bool
is_name_point S p = list_any (λ o. same_name o.name p.change && is_name_kind (kind_at o.change.hunks p.offset)) S

-- the status of the point at a place; the root is alive
abbrev pub status_at : List Record → Place → Status
status_at S placed.Root = Alive
status_at S (placed.At p) = status_of S p

-- a block edge has the status of the text to which it leads, a folder edge that of the name at one of its ends, and an order edge is alive
abbrev pub edge_status : List Record → Place → Point → Label → Status
edge_status S source target label.Block = status_of S target
edge_status S source target label.Folder = if is_name_point S target then status_of S target else status_at S source
edge_status S source target label.Order = Alive

-- the status of the edge with this row
abbrev pub row_status : List Record → EdgeRow → Status
row_status S row = edge_status S row.source row.target row.label
