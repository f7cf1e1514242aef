-- A scan of the keys of a map, from below all.
use Rattle.std.proofs.Common.{◌≡◌, List, [], ◌∷◌, Some, None, Option, refl}
use Rattle.pj_pmap.specs.Pairs.{rest_after}
use Rattle.pj_change.specs.declared.point.Point.{Point}
use Rattle.pj_tree.specs.declared.row.NameRow.{NameRow}
use Rattle.pj_tree.specs.declared.keys.Here.{Here}
use Rattle.pj_tree.specs.declared.keys.InodeKey.{InodeKey}
use Rattle.pj_tree.specs.declared.keys.InodeKind.{InodeKind}
use Rattle.pj_tree.specs.RowOrder.{key_cmp}
use Rattle.pj_tree.specs.Maps.{inode_key_cmp, rows_of, inodes_of}

-- what is below each row stands first, and is of no row
pub rows_least : (es : List (Option NameRow × Here)) → rows_of (rest_after key_cmp None es) ≡ rows_of es
rows_least [] = refl
rows_least (e ∷ es) = by e.0 e.1
  where
    by : (k : Option NameRow) (h : Here) → rows_of (rest_after key_cmp None ((k, h) ∷ es)) ≡ rows_of ((k, h) ∷ es)
    by None h = refl
    by (Some r) h = refl

pub inodes_least : (es : List (InodeKey × InodeKind)) → inodes_of (rest_after inode_key_cmp (record { at = None }) es) ≡ inodes_of es
inodes_least [] = refl
inodes_least (e ∷ es) = by e.0.at e.1
  where
    by : (k : Option Point) (h : InodeKind) → inodes_of (rest_after inode_key_cmp (record { at = None }) ((record { at = k }, h) ∷ es)) ≡ inodes_of ((record { at = k }, h) ∷ es)
    by None h = refl
    by (Some r) h = refl
