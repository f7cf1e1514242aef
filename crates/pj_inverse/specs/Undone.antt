-- What the inverse of a change undoes in a set: the premises, and what holds of the set with it.
use Rattle.std.specs.Prelude.{◌≡◌, ℕ, ◌+◌, false, IsTrue, List, ◌∷◌, length, Some, Contains, ◌⊎◌, ◌↔◌, slice_get}
use Rattle.pj_change.specs.declared.point.Point.{Point}
use Rattle.pj_change.specs.declared.point.Ref.{Ref}
use Rattle.pj_change.specs.declared.point.Place.{Place}
use Rattle.pj_change.specs.declared.point.Place.TheVariants as placed
use Rattle.pj_change.specs.declared.hunk.Hunk.{Hunk}
use Rattle.pj_change.specs.declared.hunk.Hunk.TheVariants.{Insert, Delete}
use Rattle.pj_change.specs.declared.kind.Kind.{Kind}
use Rattle.pj_change.specs.declared.kind.Kind.TheVariants.{NameAt, FileInode, DirInode, Text}
use Rattle.pj_change.specs.declared.graph.Status.TheVariants.{Dead}
use Rattle.pj_change.specs.declared.change.Record.{Record}
use Rattle.pj_change.specs.Positions.{kind_at, own_point, numbered, place, child_of}
use Rattle.pj_change.specs.Covers.{deletes, touches}
use Rattle.pj_change.specs.Contested.{inserts_after, builds_on, opposes, deleted_at}
use Rattle.pj_change.specs.Sets.{HaveOneText}
use Rattle.pj_change.specs.Lawful.{is_held, IsLawfulSet}
use Rattle.pj_change.specs.Status.{status_of}
use Rattle.pj_change.specs.Inverse.{IsInverse}

-- S is lawful and holds c, and v is the inverse of c and not in S; records with equal names have equal texts
pub record IsUndoing (S : List Record) (c v : Record) : Type 0 where
  pub lawful : IsLawfulSet S
  pub one_text : HaveOneText (v ∷ S)
  pub member : Contains S c
  pub fresh : is_held S v.name ≡ false
  pub inverse : IsInverse c v.change

-- another change of S than c
pub record IsOther (S : List Record) (c d : Record) : Type 0 where
  pub member : Contains S d
  pub other : d.name ≡ c.name → ⊥

-- the place is an inode of c
abbrev pub IsInodeOf : Record → Place → Type 0
IsInodeOf c at =
    (offset : ℕ) × (hunk : ℕ) × (at ≡ placed.At (own_point c offset))
    × ((kind_at c.change.hunks offset ≡ Some (FileInode hunk)) ⊎ (kind_at c.change.hunks offset ≡ Some (DirInode hunk)))

-- the place is the child of a name of c
abbrev pub IsChildOf : Record → Place → Type 0
IsChildOf c at = (number : ℕ) × (h : Hunk) × (slice_get c.change.hunks number ≡ Some h) × (child_of c (place c.change.hunks number) h ≡ Some at)

-- c has a byte, a name or an inode at the point
pub record IsOwnPoint (c : Record) (p : Point) : Type 0 where
  pub owner : p.change ≡ c.name
  pub kind : Kind
  pub there : kind_at c.change.hunks p.offset ≡ Some kind

-- no other change of S works on what c made or deleted
pub record IsUndisturbed (S : List Record) (c : Record) : Type 0 where
  -- none deletes or revives a point of c, or a point that c deletes
  pub untouched : (d : Record) → IsOther S c d → (p : Point) → IsOwnPoint c p ⊎ IsTrue (deletes c p) → touches d p ≡ false
  -- none has an up in a block of c
  pub no_ups : (d : Record) → IsOther S c d → (h : Hunk) → Contains d.change.hunks h →
      (number : ℕ) (file : Ref) (ups downs : List Ref) (bytes : List ℕ) → slice_get c.change.hunks number ≡ Some (Insert file ups downs bytes) →
      inserts_after d c.name (place c.change.hunks number) (place c.change.hunks number + length bytes) h ≡ false
  -- none has a hunk whose file or parent is an inode of c or the child of a name of c
  pub no_bases : (d : Record) → IsOther S c d → (h : Hunk) → Contains d.change.hunks h →
      (at : Place) → IsInodeOf c at ⊎ IsChildOf c at → builds_on d at h ≡ false
  -- no `delete` of another is contested through c
  pub no_contests : (d : Record) → IsOther S c d → (owner start end : ℕ) (by : List ℕ) → Contains d.change.hunks (Delete owner start end by) →
      (o : Record) → Contains S o → o.name ≡ numbered d owner → opposes c d o.name start end (deleted_at o start) ≡ false

-- T is S without c
abbrev pub IsWithout : List Record → Record → List Record → Type 0
IsWithout S c T = (r : Record) → Contains T r ↔ (Contains S r × (r.name ≡ c.name → ⊥))

-- S with v is lawful
abbrev pub UndoneIsLawful : Type 0
UndoneIsLawful = (S : List Record) (c v : Record) → IsUndoing S c v → IsLawfulSet (v ∷ S)

-- each byte and each name of c is dead in it, where no other change works on what c made or deleted
abbrev pub OwnAreDead : Type 0
OwnAreDead =
    (S : List Record) (c v : Record) → IsUndoing S c v → IsUndisturbed S c → (p : Point) → p.change ≡ c.name → (hunk first past : ℕ) →
    (kind_at c.change.hunks p.offset ≡ Some (Text hunk first past)) ⊎ (kind_at c.change.hunks p.offset ≡ Some (NameAt hunk)) → status_of (v ∷ S) p ≡ Dead

-- each point of another change has in it, where the same holds, the status that it has in S without c, be that lawful or not
abbrev pub OthersAreAsWithout : Type 0
OthersAreAsWithout =
    (S : List Record) (c v : Record) → IsUndoing S c v → IsUndisturbed S c → (T : List Record) → IsWithout S c T →
    (p : Point) → (p.change ≡ c.name → ⊥) → status_of (v ∷ S) p ≡ status_of T p
