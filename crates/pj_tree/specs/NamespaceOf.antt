-- The namespace of a set of changes.
use Rattle.std.specs.Prelude.{◌≡◌, Bool, true, List, Contains, ◌↔◌}
use Rattle.pj_change.specs.declared.point.Point.{Point}
use Rattle.pj_change.specs.declared.point.Place.TheVariants as placed
use Rattle.pj_change.specs.declared.graph.Vertex.{Vertex}
use Rattle.pj_change.specs.declared.change.Record.{Record}
use Rattle.pj_change.specs.Status.{status_of}
use Rattle.pj_change.specs.FileText.{IsLiveIn}
use Rattle.pj_change.specs.Children as set
use Rattle.pj_change.specs.Children.{Naming}
use Rattle.pj_tree.specs.declared.row.NameRow.{NameRow}
use Rattle.pj_tree.specs.declared.row.Inode.{Inode}
use Rattle.pj_tree.specs.Namespace.{Namespace, IsInode}

-- the name that a row is of
abbrev pub naming : NameRow → Naming
naming r = record { parent = r.parent; bytes = r.name; child = placed.At r.child; exec = r.exec; at = r.at }

-- the name has a row
pub record HasRow (N : Namespace) (n : Naming) : Type 0 where
  pub row : NameRow
  pub there : Contains N.rows row
  pub is : naming row ≡ n

-- The rows are the names of S, the inodes are those of S, and so are the statuses of the names and what inodes have live text.
pub record IsNamespaceOf (S : List Record) (N : Namespace) : Type 0 where
  pub rows : (r : NameRow) → Contains N.rows r → set.IsNaming S (naming r)
  pub all_rows : (n : Naming) → set.IsNaming S n → HasRow N n
  pub inodes : (i : Inode) → Contains N.inodes i → set.IsInode S i.at i.dir
  pub all_inodes : (at : Point) (dir : Bool) → set.IsInode S at dir → IsInode N at dir
  pub status : (r : NameRow) → Contains N.rows r → N.status r.at ≡ status_of S r.at
  pub live : (i : Inode) → Contains N.inodes i → (N.live i.at ≡ true) ↔ ((v : Vertex) × IsLiveIn S i.at v)
