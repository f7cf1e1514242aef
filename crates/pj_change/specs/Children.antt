-- Names and inodes of a set S, and the children of the root or of a directory.
use Rattle.std.specs.Prelude.{◌≡◌, ◌≢◌, ℕ, ◌+◌, Bool, true, false, IsTrue, not, ◌&&◌, List, ◌++◌, codes, decimal, Option, Some, None, Contains, ◌↔◌, slice_get, if◌then◌else◌}
use Rattle.std.specs.List.{list_any}
use Rattle.std.specs.Str.{bytes_eq}
use Rattle.std.specs.declared.cmp.Ordering.{Ordering}
use Rattle.std.specs.Ordering.{nat_cmp, on, then_cmp}
use Rattle.std.specs.Cmp.Lexicographic.{slice_cmp}
use Rattle.pj_name.specs.Name.{hex}
use Rattle.pj_change.specs.declared.point.Point.{Point}
use Rattle.pj_change.specs.declared.point.Place.{Place}
use Rattle.pj_change.specs.declared.point.Place.TheVariants as placed
use Rattle.pj_change.specs.declared.hunk.Hunk.{Hunk}
use Rattle.pj_change.specs.declared.hunk.Hunk.TheVariants.{File, Dir, NameOf}
use Rattle.pj_change.specs.declared.graph.Status.{Status}
use Rattle.pj_change.specs.declared.graph.Status.TheVariants.{Alive, Dead, Zombie}
use Rattle.pj_change.specs.declared.print.StepWord.{StepWord}
use Rattle.pj_change.specs.declared.print.StepWord.TheVariants as word
use Rattle.pj_change.specs.declared.change.Record.{Record}
use Rattle.pj_change.specs.Positions.{kind_at, place, resolve, own_point, same_point}
use Rattle.pj_change.specs.Context.{is_file_inode, is_dir_inode}
use Rattle.pj_change.specs.Status.{status_of}
use Rattle.pj_change.specs.Graph.{point_cmp}

-- ---- names and inodes

-- what a name says, and where it stands
pub record Naming : Type 0 where
  pub parent : Place
  pub bytes : List ℕ
  pub child : Place
  pub exec : Bool
  pub at : Point

-- the name of a hunk of r whose first position is first
abbrev pub naming_of : Record → ℕ → Hunk → Option Naming
naming_of r first (File parent name exec) = Some (record { parent = resolve r parent; bytes = name; child = placed.At (own_point r (first + 1)); exec = exec; at = own_point r first })
naming_of r first (Dir parent name) = Some (record { parent = resolve r parent; bytes = name; child = placed.At (own_point r (first + 1)); exec = false; at = own_point r first })
naming_of r first (NameOf parent child name exec) = Some (record { parent = resolve r parent; bytes = name; child = resolve r child; exec = exec; at = own_point r first })
naming_of r first h = None

-- a name of S
pub record IsNaming (S : List Record) (n : Naming) : Type 0 where
  pub owner : Record
  pub member : Contains S owner
  pub number : ℕ
  pub hunk : Hunk
  pub there : slice_get owner.change.hunks number ≡ Some hunk
  pub is : naming_of owner (place owner.change.hunks number) hunk ≡ Some n

-- an inode of S, of a directory or of a file
pub record IsInode (S : List Record) (inode : Point) (dir : Bool) : Type 0 where
  pub owner : Record
  pub member : Contains S owner
  pub name : owner.name ≡ inode.change
  pub is : IsTrue (if dir then is_dir_inode (kind_at owner.change.hunks inode.offset) else is_file_inode (kind_at owner.change.hunks inode.offset))

-- a name of S that is not dead has this child
pub record IsNamed (S : List Record) (inode : Point) : Type 0 where
  pub naming : Naming
  pub is : IsNaming S naming
  pub child : naming.child ≡ placed.At inode
  pub live : status_of S naming.at ≢ Dead

-- a name of S that is not dead has this parent
pub record IsParent (S : List Record) (inode : Point) : Type 0 where
  pub naming : Naming
  pub is : IsNaming S naming
  pub parent : naming.parent ≡ placed.At inode
  pub live : status_of S naming.at ≢ Dead

-- ---- children

-- a pair of a name and an inode in a parent, with the word of its entry, and whether it is executable
pub record Child : Type 0 where
  pub bytes : List ℕ
  pub inode : Point
  pub word : StepWord
  pub exec : Bool

-- the name has this status, and says the pair in the parent
pub record IsSaid (S : List Record) (parent : Place) (bytes : List ℕ) (inode : Point) (status : Status) (naming : Naming) : Type 0 where
  pub is : IsNaming S naming
  pub in_parent : naming.parent ≡ parent
  pub of_bytes : naming.bytes ≡ bytes
  pub of_child : naming.child ≡ placed.At inode
  pub of_status : status_of S naming.at ≡ status

-- a name of this status says the pair
abbrev pub HasName : List Record → Place → List ℕ → Point → Status → Type 0
HasName S parent bytes inode status = (naming : Naming) × IsSaid S parent bytes inode status naming

-- an executable name of this status says the pair
abbrev pub HasExecName : List Record → Place → List ℕ → Point → Status → Type 0
HasExecName S parent bytes inode status = (naming : Naming) × IsSaid S parent bytes inode status naming × (naming.exec ≡ true)

-- the pair is a child of the parent: by a name that is alive, or else by a zombie; executable by one of the same status
abbrev pub IsChildBy : List Record → Place → Child → StepWord → Type 0
IsChildBy S parent c word.Alive = HasName S parent c.bytes c.inode Alive × (IsTrue c.exec ↔ HasExecName S parent c.bytes c.inode Alive)
IsChildBy S parent c word.Zombie =
    HasName S parent c.bytes c.inode Zombie × (HasName S parent c.bytes c.inode Alive → ⊥) × (IsTrue c.exec ↔ HasExecName S parent c.bytes c.inode Zombie)
IsChildBy S parent c word.Orphan = ⊥
IsChildBy S parent c word.Adrift = ⊥

-- a child of the parent
pub record IsChild (S : List Record) (parent : Place) (c : Child) : Type 0 where
  pub by : IsChildBy S parent c c.word

-- by name, then by inode
abbrev pub child_cmp : Child → Child → Ordering
child_cmp = then_cmp (on (λ c. c.bytes) (slice_cmp nat_cmp)) (on (λ c. c.inode) point_cmp)

-- ---- paths

-- a point as it is written
abbrev pub point_text : Point → List ℕ
point_text p = hex p.change.bytes ++ codes "." ++ decimal p.offset

-- another child of the parent has the same name
abbrev pub is_shared : List Child → Child → Bool
is_shared children c = list_any (λ d. bytes_eq d.bytes c.bytes && not (same_point d.inode c.inode)) children

-- the last part of a child's path: its name, with its inode where others share the name
abbrev pub part_of : List Child → Child → List ℕ
part_of children c = if is_shared children c then c.bytes ++ codes "~" ++ point_text c.inode else c.bytes

-- the path of an inode that no walk from the root reaches
abbrev pub lost_path : Point → List ℕ
lost_path p = codes "~" ++ point_text p
