-- What a change gives to each index, by that change alone; and its size, by which steps are bounded.
use Rattle.std.specs.Prelude.{ℕ, ◌+◌, List, [], ◌∷◌, ◌++◌, Option, Some, None, flat_map, map, length, sum_by}
use Rattle.pj_name.specs.declared.name.Name.{Name}
use Rattle.pj_change.specs.declared.point.Point.{Point}
use Rattle.pj_change.specs.declared.point.Place.{Place}
use Rattle.pj_change.specs.declared.point.Place.TheVariants as placed
use Rattle.pj_change.specs.declared.point.Ref.{Ref}
use Rattle.pj_change.specs.declared.hunk.Hunk.{Hunk}
use Rattle.pj_change.specs.declared.hunk.Hunk.TheVariants.{Insert, Delete}
use Rattle.pj_change.specs.declared.change.Record.{Record}
use Rattle.pj_change.specs.Rules.{position_count}
use Rattle.pj_change.specs.Positions.{numbered, resolve, own_point, child_of}
use Rattle.pj_change.specs.Contested.{base_of}
use Rattle.pj_change.specs.Weight.{refs_of}
use Rattle.pj_ranges.specs.declared.range.RangeAt.{RangeAt}
use Rattle.pj_ranges.specs.Units.{range_of}
use Rattle.pj_contest.specs.declared.marks.UpMark.{UpMark}
use Rattle.pj_contest.specs.declared.marks.BaseMark.{BaseMark}
use Rattle.pj_contest.specs.declared.marks.ChildMark.{ChildMark}
use Rattle.pj_contest.specs.Marks.{up_row, base_row, name_row}

-- a place as a key
abbrev pub key_of : Place → Option Point
key_of placed.Root = None
key_of (placed.At p) = Some p

-- ---- what it inserts after

-- the point that a place is, if it is one
abbrev pub points_at : Place → List Point
points_at placed.Root = []
points_at (placed.At p) = p ∷ []

-- the ups of a hunk that are points
abbrev pub up_points_in : Record → Hunk → List Point
up_points_in r (Insert file ups downs bytes) = flat_map (λ up. points_at (resolve r up)) ups
up_points_in r h = []

-- its ups that are points
abbrev pub up_points : Record → List Point
up_points r = flat_map (up_points_in r) r.change.hunks

-- each of them, and that it inserts there
abbrev pub up_rows : Record → List UpMark
up_rows r = map (λ p. up_row p r.name) (up_points r)

-- ---- what it builds on

-- the key of what a base means, if there is one
abbrev pub bases_at : Record → Option Ref → List (Option Point)
bases_at r None = []
bases_at r (Some base) = key_of (resolve r base) ∷ []

-- its files and parents
abbrev pub bases : Record → List (Option Point)
bases r = flat_map (λ h. bases_at r (base_of h)) r.change.hunks

-- each of them, and that it builds there
abbrev pub base_rows : Record → List BaseMark
base_rows r = map (λ c. base_row c r.name) (bases r)

-- ---- what it names

-- the child, if there is one, and the name at this position
abbrev pub child_row : Record → ℕ → Option Place → List ChildMark
child_row r first None = []
child_row r first (Some child) = name_row (key_of child) (own_point r first) ∷ []

-- the children and the names of these hunks, whose first position is first
abbrev pub child_rows_from : Record → ℕ → List Hunk → List ChildMark
child_rows_from r first [] = []
child_rows_from r first (h ∷ hs) = child_row r first (child_of r first h) ++ child_rows_from r (first + position_count h) hs

-- each child of a name of it, and the name
abbrev pub child_rows : Record → List ChildMark
child_rows r = child_rows_from r 0 r.change.hunks

-- ---- what it deletes

-- the range that the hunk of this number deletes, if it deletes one
abbrev pub range_in : Record → ℕ → Hunk → List RangeAt
range_in r number (Delete owner start end by) = range_of (numbered r owner) start end (record { change = r.name; hunk = number }) ∷ []
range_in r number h = []

-- the ranges that these hunks delete, of which the first has this number
abbrev pub ranges_from : Record → ℕ → List Hunk → List RangeAt
ranges_from r number [] = []
ranges_from r number (h ∷ hs) = range_in r number h ++ ranges_from r (number + 1) hs

-- each range, by its hunk
abbrev pub deleted_ranges : Record → List RangeAt
deleted_ranges r = ranges_from r 0 r.change.hunks

-- ---- its size

-- how many hunks it has, and how many references they have
abbrev pub size_of : Record → ℕ
size_of r = length r.change.hunks + sum_by (λ h. length (refs_of h)) r.change.hunks

-- the rows that it has in all indexes
abbrev pub rows_of : Record → ℕ
rows_of r = length (up_rows r) + length (base_rows r) + length (child_rows r) + length (deleted_ranges r)
