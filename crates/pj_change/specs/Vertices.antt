-- The vertices of a set S: names, inodes, and the runs of text between cuts
-- (Pijul splits vertices where a context or a deletion falls inside; here a cut stands only while a change of S makes it).
use Rattle.std.specs.Prelude.{◌≡◌, ℕ, ◌+◌, ◌-◌, ◌<◌, ◌≤◌, Bool, false, IsTrue, ◌&&◌, ◌||◌, List, nat_eq, Option, Some, None, Contains, ◌⊎◌, slice_get, if◌then◌else◌}
use Rattle.std.specs.List.{list_any}
use Rattle.pj_name.specs.Name.{same_name}
use Rattle.pj_change.specs.declared.point.Point.{Point}
use Rattle.pj_change.specs.declared.point.Place.{Place}
use Rattle.pj_change.specs.declared.point.Place.TheVariants as placed
use Rattle.pj_change.specs.declared.hunk.Hunk.{Hunk}
use Rattle.pj_change.specs.declared.hunk.Hunk.TheVariants.{File, NameOf, Insert, Order, Delete, Revive}
use Rattle.pj_change.specs.declared.kind.Kind.{Kind}
use Rattle.pj_change.specs.declared.kind.Kind.TheVariants.{NameAt, FileInode, DirInode, Text}
use Rattle.pj_change.specs.declared.graph.VertexKind.{VertexKind}
use Rattle.pj_change.specs.declared.graph.VertexKind.TheVariants as vertex_kind
use Rattle.pj_change.specs.declared.graph.Status.{Status}
use Rattle.pj_change.specs.declared.graph.Status.TheVariants.{Alive}
use Rattle.pj_change.specs.declared.graph.Vertex.{Vertex}
use Rattle.pj_change.specs.declared.change.Record.{Record}
use Rattle.pj_change.specs.Positions.{kind_at, resolve, numbered, same_place}
use Rattle.pj_change.specs.Status.{status_of}

-- ---- cuts

-- the place is the point just before this one
abbrev pub is_just_before : Point → Place → Bool
is_just_before p placed.Root = false
is_just_before p (placed.At q) = same_name q.change p.change && nat_eq (q.offset + 1) p.offset

-- the place is this point
abbrev pub is_at : Point → Place → Bool
is_at p at = same_place at (placed.At p)

-- the range from start up to end of a numbered need has an end just before the point
abbrev pub is_end : Record → ℕ → ℕ → ℕ → Point → Bool
is_end r owner start end p = same_name (numbered r owner) p.change && (nat_eq start p.offset || nat_eq end p.offset)

-- the hunk of r cuts before the point: after each up and source, before each down and target, at both ends of a range.
-- A cut counts only inside a block. So an up that is a file's inode cuts nothing: what follows an inode begins a hunk.
abbrev pub cuts : Record → Point → Hunk → Bool
cuts r p (Insert file ups downs bytes) = list_any (λ up. is_just_before p (resolve r up)) ups || list_any (λ down. is_at p (resolve r down)) downs
cuts r p (Order file source target) = is_just_before p (resolve r source) || is_at p (resolve r target)
cuts r p (Delete owner start end by) = is_end r owner start end p
cuts r p (Revive owner start end by) = is_end r owner start end p
cuts r p h = false

-- a change of S cuts before the point
abbrev pub is_cut : List Record → Point → Bool
is_cut S p = list_any (λ r. list_any (cuts r p) r.change.hunks) S

-- ---- vertices

-- its first position
abbrev pub first_point : Vertex → Point
first_point v = record { change = v.change; offset = v.start }

-- its last position
abbrev pub last_point : Vertex → Point
last_point v = record { change = v.change; offset = v.end - 1 }

-- the text from start up to end lies in the block that ends at past, and is whole between two cuts or ends of the block
pub record IsRun (S : List Record) (v : Vertex) (first past : ℕ) : Type 0 where
  pub nonempty : v.start < v.end
  pub inside : v.end ≤ past
  pub from : (v.start ≡ first) ⊎ IsTrue (is_cut S (first_point v))
  pub upto : (v.end ≡ past) ⊎ IsTrue (is_cut S (record { change = v.change; offset = v.end }))
  pub uncut : (k : ℕ) → v.start < k → k < v.end → is_cut S (record { change = v.change; offset = k }) ≡ false

-- one position
abbrev pub IsSingle : Vertex → VertexKind → Status → Type 0
IsSingle v kind status = (v.end ≡ v.start + 1) × (v.kind ≡ kind) × (v.status ≡ status)

-- the name that a hunk makes is executable or not
abbrev pub name_kind : Option Hunk → VertexKind
name_kind (Some (File parent name exec)) = if exec then vertex_kind.ExecName else vertex_kind.Name
name_kind (Some (NameOf parent child name exec)) = if exec then vertex_kind.ExecName else vertex_kind.Name
name_kind h = vertex_kind.Name

-- v is the vertex that begins where this stands in its owner's change
abbrev pub IsVertexBy : List Record → Record → Vertex → Option Kind → Type 0
IsVertexBy S owner v None = ⊥
IsVertexBy S owner v (Some (NameAt hunk)) = IsSingle v (name_kind (slice_get owner.change.hunks hunk)) (status_of S (first_point v))
IsVertexBy S owner v (Some (FileInode hunk)) = IsSingle v vertex_kind.File Alive
IsVertexBy S owner v (Some (DirInode hunk)) = IsSingle v vertex_kind.Dir Alive
IsVertexBy S owner v (Some (Text hunk first past)) = IsRun S v first past × (v.kind ≡ vertex_kind.Text) × (v.status ≡ status_of S (first_point v))

-- a vertex of S
pub record IsVertex (S : List Record) (v : Vertex) : Type 0 where
  pub owner : Record
  pub member : Contains S owner
  pub name : owner.name ≡ v.change
  pub is : IsVertexBy S owner v (kind_at owner.change.hunks v.start)
