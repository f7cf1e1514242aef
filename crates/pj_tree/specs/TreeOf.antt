-- What the changes of a set S give to a tree, and when a tree is that of S.
use Rattle.std.specs.Prelude.{◌≡◌, ℕ, Bool, true, false, ◌&&◌, List, Option, Some, None, Contains, ◌↔◌, slice_get, option_and_then}
use Rattle.std.specs.List.{list_any}
use Rattle.pj_name.specs.Name.{same_name}
use Rattle.pj_change.specs.declared.point.Point.{Point}
use Rattle.pj_change.specs.declared.point.Place.{Place}
use Rattle.pj_change.specs.declared.point.Place.TheVariants as placed
use Rattle.pj_change.specs.declared.hunk.Hunk.{Hunk}
use Rattle.pj_change.specs.declared.graph.Vertex.{Vertex}
use Rattle.pj_change.specs.declared.graph.VertexKind.{VertexKind}
use Rattle.pj_change.specs.declared.graph.VertexKind.TheVariants as vertex_kind
use Rattle.pj_change.specs.declared.change.Record.{Record}
use Rattle.pj_change.specs.Positions.{kind_at, place}
use Rattle.pj_change.specs.Context.{is_dir_inode}
use Rattle.pj_change.specs.Children.{Naming, naming_of, IsInode}
use Rattle.pj_change.specs.Gathers.{IsOfOne}
use Rattle.pj_change.specs.Vertices.{first_point}
use Rattle.pj_tree.specs.declared.row.NameRow.{NameRow}
use Rattle.pj_tree.specs.declared.row.Inode.{Inode}
use Rattle.pj_tree.specs.Rows.{Listing}

-- ---- names

-- a directory of S is at the point
abbrev pub is_dir : List Record → Point → Bool
is_dir S p = list_any (λ r. same_name r.name p.change && is_dir_inode (kind_at r.change.hunks p.offset)) S

-- the row of a name with this child; the root has no name
abbrev pub row_to : List Record → Naming → Place → Option NameRow
row_to S n placed.Root = None
row_to S n (placed.At p) = Some (record { parent = n.parent; name = n.bytes; child = p; at = n.at; dir = is_dir S p; exec = n.exec })

-- the row of a name, if its child is not the root
abbrev pub row_of : List Record → Naming → Option NameRow
row_of S n = row_to S n n.child

-- the row of the name of a hunk of r whose first position is first
abbrev pub hunk_row : List Record → Record → ℕ → Hunk → Option NameRow
hunk_row S r first hunk = option_and_then (row_of S) (naming_of r first hunk)

-- the row of a name that r makes
pub record IsRowOf (S : List Record) (r : Record) (row : NameRow) : Type 0 where
  pub number : ℕ
  pub hunk : Hunk
  pub there : slice_get r.change.hunks number ≡ Some hunk
  pub is : hunk_row S r (place r.change.hunks number) hunk ≡ Some row

-- ---- inodes

-- the inode of a vertex of this kind at this point, if it is one
abbrev pub inode_by : Point → VertexKind → Option Inode
inode_by p vertex_kind.File = Some (record { at = p; dir = false })
inode_by p vertex_kind.Dir = Some (record { at = p; dir = true })
inode_by p vertex_kind.Name = None
inode_by p vertex_kind.ExecName = None
inode_by p vertex_kind.Text = None

-- the inode that a vertex is
abbrev pub inode_of : Vertex → Option Inode
inode_of v = inode_by (first_point v) v.kind

-- ---- the tree

-- it holds the names and the inodes of S
pub record IsTreeOf (S : List Record) (tree : Listing) : Type 0 where
  pub rows : (row : NameRow) → Contains tree.rows row ↔ IsOfOne (IsRowOf S) S row
  pub inodes : (i : Inode) → Contains tree.inodes i ↔ IsInode S i.at i.dir
