-- The positions of a change, what stands at each, and what references mean.
use Rattle.std.specs.Prelude.{ℕ, suc, zero, ◌+◌, ◌-◌, ◌≤◌, Bool, true, false, ◌&&◌, List, [], ◌∷◌, take, nat_lt, nat_eq, if◌then◌else◌, Option, Some, None}
use Rattle.std.specs.List.{slice_index_or, sum_by}
use Rattle.pj_name.specs.declared.name.Name.{Name}
use Rattle.pj_name.specs.Name.{same_name}
use Rattle.pj_change.specs.declared.point.Point.{Point}
use Rattle.pj_change.specs.declared.point.Place.{Place}
use Rattle.pj_change.specs.declared.point.Place.TheVariants as placed
use Rattle.pj_change.specs.declared.point.Ref.{Ref}
use Rattle.pj_change.specs.declared.point.Ref.TheVariants as ref
use Rattle.pj_change.specs.declared.hunk.Hunk.{Hunk}
use Rattle.pj_change.specs.declared.hunk.Hunk.TheVariants.{File, Dir, NameOf, Insert}
use Rattle.pj_change.specs.declared.kind.Kind.{Kind}
use Rattle.pj_change.specs.declared.kind.Kind.TheVariants.{NameAt, FileInode, DirInode, Text}
use Rattle.pj_change.specs.declared.change.Record.{Record}
use Rattle.pj_change.specs.Rules.{position_count}

-- ---- positions

-- the first position of hunk k
abbrev pub place : List Hunk → ℕ → ℕ
place hunks k = sum_by position_count (take k hunks)

-- what stands at a distance into hunk k, whose first position is first
abbrev pub kind_in : ℕ → ℕ → Hunk → ℕ → Kind
kind_in k first (File parent name exec) zero = NameAt k
kind_in k first (File parent name exec) (suc at) = FileInode k
kind_in k first (Dir parent name) zero = NameAt k
kind_in k first (Dir parent name) (suc at) = DirInode k
kind_in k first (NameOf parent child name exec) at = NameAt k
kind_in k first h at = Text k first (first + position_count h)

-- what stands at a distance into hunks, of which the first is hunk k and has the first position first
unfoldable pub kind_from : ℕ → ℕ → List Hunk → ℕ → Option Kind
kind_from k first [] at = None
kind_from k first (h ∷ hs) at =
    if nat_lt at (position_count h) then Some (kind_in k first h at) else kind_from (k + 1) (first + position_count h) hs (at - position_count h)

-- what stands at a position, if it exists
abbrev pub kind_at : List Hunk → ℕ → Option Kind
kind_at hunks offset = kind_from 0 0 hunks offset

-- ---- equal points and places

-- the points are equal: the same change and the same position
abbrev pub same_point : Point → Point → Bool
same_point p q = same_name p.change q.change && nat_eq p.offset q.offset

-- the places are equal: both the root, or equal points
abbrev pub same_place : Place → Place → Bool
same_place placed.Root placed.Root = true
same_place (placed.At p) (placed.At q) = same_point p q
same_place p q = false

-- ---- references of a record's change

-- the name of the change itself for 0, and of its k-th need for k; it says nothing for more than the number of needs
abbrev pub numbered : Record → ℕ → Name
numbered r zero = r.name
numbered r (suc k) = slice_index_or r.change.needs k r.name

-- a position of the change itself
abbrev pub own_point : Record → ℕ → Point
own_point r offset = record { change = r.name; offset = offset }

-- the place that a reference means
abbrev pub resolve : Record → Ref → Place
resolve r ref.Root = placed.Root
resolve r (ref.At owner offset) = placed.At (record { change = numbered r owner; offset = offset })

-- the reference's number is at most the number of needs
abbrev pub IsNumbered : ℕ → Ref → Type 0
IsNumbered needs ref.Root = Unit {0}
IsNumbered needs (ref.At owner offset) = owner ≤ needs

-- ---- what a hunk of a record's change refers to

-- the file of a block
abbrev pub file_of : Record → Hunk → Option Place
file_of r (Insert file ups downs bytes) = Some (resolve r file)
file_of r h = None

-- the child of a name that a hunk with this first position makes
abbrev pub child_of : Record → ℕ → Hunk → Option Place
child_of r first (File parent name exec) = Some (placed.At (own_point r (first + 1)))
child_of r first (Dir parent name) = Some (placed.At (own_point r (first + 1)))
child_of r first (NameOf parent child name exec) = Some (resolve r child)
child_of r first h = None
