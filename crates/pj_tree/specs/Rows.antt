-- What a tree holds: the names of a set, and its inodes.
use Rattle.std.specs.Prelude.{◌≡◌, List, Contains, ◌↔◌, ◌⊎◌, ◌≢◌}
use Rattle.std.specs.declared.cmp.Ordering.{Ordering}
use Rattle.std.specs.Ordering.{nat_cmp, bool_cmp, on, then_cmp}
use Rattle.std.specs.Cmp.Lexicographic.{slice_cmp}
use Rattle.std.specs.List.Sorted.{IsStrictlySortedBy}
use Rattle.pj_change.specs.declared.point.Point.{Point}
use Rattle.pj_change.specs.Graph.{point_cmp, place_cmp}
use Rattle.pj_tree.specs.declared.row.NameRow.{NameRow}
use Rattle.pj_tree.specs.declared.row.Inode.{Inode}

-- ---- orders

-- by parent, then by name, then by child
abbrev pub pair_cmp : NameRow → NameRow → Ordering
pair_cmp = then_cmp (on (λ r. r.parent) place_cmp) (then_cmp (on (λ r. r.name) (slice_cmp nat_cmp)) (on (λ r. r.child) point_cmp))

-- by the pair, then by where the name stands
abbrev pub row_cmp : NameRow → NameRow → Ordering
row_cmp = then_cmp pair_cmp (then_cmp (on (λ r. r.at) point_cmp) (then_cmp (on (λ r. r.dir) bool_cmp) (on (λ r. r.exec) bool_cmp)))

-- by point
abbrev pub inode_cmp : Inode → Inode → Ordering
inode_cmp = on (λ i. i.at) point_cmp

-- ---- what a tree holds

-- rows and inodes
pub record Listing : Type 0 where
  pub rows : List NameRow
  pub inodes : List Inode

-- Each row is there once, and each point has at most one inode: so the members say all of a listing.
pub record IsInOrder (l : Listing) : Type 0 where
  pub rows : IsStrictlySortedBy row_cmp l.rows
  pub inodes : IsStrictlySortedBy inode_cmp l.inodes

-- ---- changes

-- the row, and those that were there
abbrev pub HasAlso : List NameRow → NameRow → List NameRow → Type 0
HasAlso old row new = (r : NameRow) → Contains new r ↔ ((r ≡ row) ⊎ Contains old r)

-- those that were there, but for the row
abbrev pub LacksRow : List NameRow → NameRow → List NameRow → Type 0
LacksRow old row new = (r : NameRow) → Contains new r ↔ (Contains old r × (r ≢ row))

-- the inode, and those that were there at other points
abbrev pub HasInode : List Inode → Inode → List Inode → Type 0
HasInode old inode new = (i : Inode) → Contains new i ↔ ((i ≡ inode) ⊎ (Contains old i × (i.at ≢ inode.at)))

-- those that were there at other points
abbrev pub LacksInode : List Inode → Point → List Inode → Type 0
LacksInode old at new = (i : Inode) → Contains new i ↔ (Contains old i × (i.at ≢ at))

-- ---- whole trees

-- each child is an inode, a directory where its row says so
abbrev pub IsWhole : Listing → Type 0
IsWhole l = (r : NameRow) → Contains l.rows r → Contains l.inodes (record { at = r.child; dir = r.dir })
