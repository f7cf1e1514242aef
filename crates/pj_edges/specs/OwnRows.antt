-- The rows that a change gives by itself, as a list, and the table of a set of changes.
use Rattle.std.specs.Prelude.{◌≡◌, ℕ, ◌+◌, ◌-◌, true, List, [], ◌∷◌, ◌++◌, length, flat_map, Some, slice_get, IsTrue, Contains, ◌↔◌}
use Rattle.pj_name.specs.declared.name.Name.{Name}
use Rattle.pj_change.specs.declared.point.Point.{Point}
use Rattle.pj_change.specs.declared.point.Place.{Place}
use Rattle.pj_change.specs.declared.point.Place.TheVariants as placed
use Rattle.pj_change.specs.declared.hunk.Hunk.{Hunk}
use Rattle.pj_change.specs.declared.hunk.Hunk.TheVariants.{File, Dir, NameOf, Insert, Order}
use Rattle.pj_change.specs.declared.graph.Label.{Label}
use Rattle.pj_change.specs.declared.graph.Label.TheVariants as label
use Rattle.pj_change.specs.declared.row.EdgeRow.{EdgeRow}
use Rattle.pj_change.specs.declared.change.Record.{Record}
use Rattle.pj_change.specs.Rules.{position_count}
use Rattle.pj_change.specs.Positions.{place, resolve, own_point}
use Rattle.pj_change.specs.Vertices.{is_cut}
use Rattle.pj_change.specs.EdgeRows.{IsInside, IsOwnRow, IsEdgeRow}
use Rattle.pj_edges.specs.Rows.{Rows, has_row}

-- the row to a place, if that is a point
abbrev pub row_to : Name → Label → Place → Place → List EdgeRow
row_to introducer l source placed.Root = []
row_to introducer l source (placed.At target) = record { source = source; target = target; label = l; introducer = introducer } ∷ []

-- from the parent to the name at a position of r, and from the name to its child
abbrev pub name_rows : Record → ℕ → Place → Place → List EdgeRow
name_rows r offset parent child =
    row_to r.name label.Folder parent (placed.At (own_point r offset)) ++ row_to r.name label.Folder (placed.At (own_point r offset)) child

-- the rows of its own of the hunk of r whose first position is first
abbrev pub rows_in : Record → ℕ → Hunk → List EdgeRow
rows_in r first (File parent name exec) = name_rows r first (resolve r parent) (placed.At (own_point r (first + 1)))
rows_in r first (Dir parent name) = name_rows r first (resolve r parent) (placed.At (own_point r (first + 1)))
rows_in r first (NameOf parent child name exec) = name_rows r first (resolve r parent) (resolve r child)
rows_in r first (Insert file ups downs bytes) =
    flat_map (λ up. row_to r.name label.Block (resolve r up) (placed.At (own_point r first))) ups
    ++ flat_map (λ down. row_to r.name label.Order (placed.At (own_point r (first + length bytes - 1))) (resolve r down)) downs
rows_in r first (Order file source target) = row_to r.name label.Order (resolve r source) (resolve r target)
rows_in r first h = []

-- those of hunks, of which the first has the first position first
unfoldable pub rows_from : Record → ℕ → List Hunk → List EdgeRow
rows_from r first [] = []
rows_from r first (h ∷ hs) = rows_in r first h ++ rows_from r (first + position_count h) hs

-- the rows that a change gives by itself, whatever else is there
abbrev pub rows_of : Record → List EdgeRow
rows_of r = rows_from r 0 r.change.hunks

-- a hunk of the change says the row
pub record IsRowOf (r : Record) (row : EdgeRow) : Type 0 where
  pub number : ℕ
  pub hunk : Hunk
  pub there : slice_get r.change.hunks number ≡ Some hunk
  pub own : IsOwnRow r (place r.change.hunks number) hunk row

-- ---- rows inside blocks

-- the row that leads within a block to a point, from the one before
abbrev pub row_before : Point → EdgeRow
row_before p = record { source = placed.At (record { change = p.change; offset = p.offset - 1 }); target = p; label = label.Block; introducer = p.change }

-- a point inside a block of a change of S, where S cuts, and to which the row leads
pub record IsRowWithin (S : List Record) (row : EdgeRow) : Type 0 where
  pub owner : Record
  pub member : Contains S owner
  pub number : ℕ
  pub hunk : Hunk
  pub there : slice_get owner.change.hunks number ≡ Some hunk
  pub at : ℕ
  pub inside : IsInside (place owner.change.hunks number) hunk at
  pub cut : IsTrue (is_cut S (own_point owner at))
  pub is : row ≡ row_before (own_point owner at)

-- ---- tables

-- the table has just the rows of the set S
abbrev pub AreRowsOf : List Record → Rows → Type 0
AreRowsOf S e = (row : EdgeRow) → (has_row e row ≡ true) ↔ IsEdgeRow S row
