-- A namespace: names and inodes, what the status of each name is, and which inodes have live text. It has all that a walk looks at.
use Rattle.std.specs.Prelude.{◌≡◌, ◌≢◌, ℕ, Bool, true, IsTrue, List, Contains, ◌↔◌}
use Rattle.pj_change.specs.declared.point.Point.{Point}
use Rattle.pj_change.specs.declared.point.Place.{Place}
use Rattle.pj_change.specs.declared.point.Place.TheVariants as placed
use Rattle.pj_change.specs.declared.graph.Status.{Status}
use Rattle.pj_change.specs.declared.graph.Status.TheVariants.{Alive, Dead, Zombie}
use Rattle.pj_change.specs.declared.print.StepWord.{StepWord}
use Rattle.pj_change.specs.declared.print.StepWord.TheVariants as word
use Rattle.pj_change.specs.Children.{Child}
use Rattle.pj_tree.specs.declared.row.NameRow.{NameRow}
use Rattle.pj_tree.specs.declared.row.Inode.{Inode}
use Rattle.pj_tree.specs.Rows.{Listing}

-- names and inodes, the status of the name at a point, and whether the inode at a point has live text
pub record Namespace : Type 0 where
  pub rows : List NameRow
  pub inodes : List Inode
  pub status : Point → Status
  pub live : Point → Bool

-- the namespace of a tree
abbrev pub namespace : Listing → (Point → Status) → (Point → Bool) → Namespace
namespace tree status live = record { rows = tree.rows; inodes = tree.inodes; status = status; live = live }

-- ---- names and inodes

-- an inode of the namespace, of a directory or of a file
abbrev pub IsInode : Namespace → Point → Bool → Type 0
IsInode N at dir = Contains N.inodes (record { at = at; dir = dir })

-- a name that is not dead has this child
pub record IsNamed (N : Namespace) (inode : Point) : Type 0 where
  pub row : NameRow
  pub there : Contains N.rows row
  pub child : row.child ≡ inode
  pub live : N.status row.at ≢ Dead

-- a name that is not dead has this parent
pub record IsParent (N : Namespace) (inode : Point) : Type 0 where
  pub row : NameRow
  pub there : Contains N.rows row
  pub parent : row.parent ≡ placed.At inode
  pub live : N.status row.at ≢ Dead

-- ---- children

-- the name has this status, and says the pair in the parent
pub record IsSaid (N : Namespace) (parent : Place) (bytes : List ℕ) (inode : Point) (status : Status) (row : NameRow) : Type 0 where
  pub there : Contains N.rows row
  pub in_parent : row.parent ≡ parent
  pub of_bytes : row.name ≡ bytes
  pub of_child : row.child ≡ inode
  pub of_status : N.status row.at ≡ status

-- a name of this status says the pair
abbrev pub HasName : Namespace → Place → List ℕ → Point → Status → Type 0
HasName N parent bytes inode status = (row : NameRow) × IsSaid N parent bytes inode status row

-- an executable name of this status says the pair
abbrev pub HasExecName : Namespace → Place → List ℕ → Point → Status → Type 0
HasExecName N parent bytes inode status = (row : NameRow) × IsSaid N parent bytes inode status row × (row.exec ≡ true)

-- the pair is a child of the parent: by a name that is alive, or else by a zombie; executable by one of the same status
abbrev pub IsChildBy : Namespace → Place → Child → StepWord → Type 0
IsChildBy N parent c word.Alive = HasName N parent c.bytes c.inode Alive × (IsTrue c.exec ↔ HasExecName N parent c.bytes c.inode Alive)
IsChildBy N parent c word.Zombie =
    HasName N parent c.bytes c.inode Zombie × (HasName N parent c.bytes c.inode Alive → ⊥) × (IsTrue c.exec ↔ HasExecName N parent c.bytes c.inode Zombie)
IsChildBy N parent c word.Orphan = ⊥
IsChildBy N parent c word.Adrift = ⊥

-- a child of the parent
pub record IsChild (N : Namespace) (parent : Place) (c : Child) : Type 0 where
  pub by : IsChildBy N parent c c.word
