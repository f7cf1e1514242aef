-- The rows and the inodes that the two maps of a tree hold.
use Rattle.std.specs.Prelude.{Bool, List, [], ◌∷◌, Option, Some, None, filter_map}
use Rattle.std.specs.Borrow.{Bor}
use Rattle.pj_pmap.specs.Pairs.{rest_after}
use Rattle.pj_tree.specs.RowOrder.{key_cmp}
use Rattle.std.specs.declared.cmp.Ordering.{Ordering}
use Rattle.std.specs.Ordering.{on}
use Rattle.std.specs.Option.{option_map, option_cmp}
use Rattle.pj_change.specs.declared.point.Point.{Point}
use Rattle.pj_change.specs.Graph.{point_cmp}
use Rattle.pj_tree.specs.declared.row.NameRow.{NameRow}
use Rattle.pj_tree.specs.declared.row.Inode.{Inode}
use Rattle.pj_tree.specs.declared.keys.Here.{Here}
use Rattle.pj_tree.specs.declared.keys.InodeKey.{InodeKey}
use Rattle.pj_tree.specs.declared.keys.InodeKind.{InodeKind}

-- what is below each point before the points
abbrev pub inode_key_cmp : InodeKey → InodeKey → Ordering
inode_key_cmp = on (λ k. k.at) (option_cmp point_cmp)

-- the rows that the map of names holds
abbrev pub rows_of : List (Option NameRow × Here) → List NameRow
rows_of pairs = filter_map (λ e. e.0) pairs

-- an inode from its fields
abbrev pub inode : Point → Bool → Inode
inode at dir = record { at = at; dir = dir }

-- the inodes that the map of inodes holds
abbrev pub inodes_of : List (InodeKey × InodeKind) → List Inode
inodes_of pairs = filter_map (λ e. option_map (λ p. inode p e.1.dir) e.0.at) pairs

-- ---- a scan

-- the pairs from this key on, which is there
abbrev pub rows_from : List (Option NameRow × Here) → Option (Bor (Option NameRow)) → List (Option NameRow × Here)
rows_from pairs None = []
rows_from pairs (Some k) = (k.now, record {}) ∷ rest_after key_cmp k.now pairs

-- the pairs from this one on, which is there
abbrev pub inodes_from : List (InodeKey × InodeKind) → Option (InodeKey × InodeKind) → List (InodeKey × InodeKind)
inodes_from pairs None = []
inodes_from pairs (Some p) = p ∷ rest_after inode_key_cmp p.0 pairs
