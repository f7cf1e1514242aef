-- The inodes that a change gives to the tree of a set.
use Rattle.std.specs.Prelude.{◌≡◌, ℕ, ◌+◌, ◌<◌, true, false, List, Option, Some, None, Contains, ◌⊎◌, ◌↔◌, slice_get}
use Rattle.pj_change.specs.declared.hunk.Hunk.{Hunk}
use Rattle.pj_change.specs.declared.hunk.Hunk.TheVariants.{File, Dir}
use Rattle.pj_change.specs.declared.change.Record.{Record}
use Rattle.pj_change.specs.Positions.{place, own_point}
use Rattle.pj_tree.specs.declared.row.Inode.{Inode}

-- the inode that a hunk of r makes whose first position is first
abbrev pub inode_in : Record → ℕ → Hunk → Option Inode
inode_in r first (File parent name exec) = Some (record { at = own_point r (first + 1); dir = false })
inode_in r first (Dir parent name) = Some (record { at = own_point r (first + 1); dir = true })
inode_in r first h = None

-- a hunk of r makes the inode
pub record IsInodeOf (r : Record) (i : Inode) : Type 0 where
  pub number : ℕ
  pub hunk : Hunk
  pub there : slice_get r.change.hunks number ≡ Some hunk
  pub is : inode_in r (place r.change.hunks number) hunk ≡ Some i

-- one of its first hunks does
abbrev pub IsInodeBelow : Record → ℕ → Inode → Type 0
IsInodeBelow r n i = (h : IsInodeOf r i) × (h.number < n)

-- the inodes of the first hunks are added, and those of other changes are kept
pub record HasInodesBelow (r : Record) (n : ℕ) (old new : List Inode) : Type 0 where
  pub kept : (i : Inode) → Contains old i → (i.at.change ≡ r.name → ⊥) → Contains new i
  pub all : (i : Inode) → IsInodeBelow r n i → Contains new i
  pub only : (i : Inode) → Contains new i → Contains old i ⊎ IsInodeBelow r n i

-- an inode of the first hunks is at the point of this one
abbrev pub IsAtInodeBelow : Record → ℕ → Inode → Type 0
IsAtInodeBelow r n i = (j : Inode) × IsInodeBelow r n j × (i.at ≡ j.at)

-- those are left of which P does not hold
abbrev pub Leaves : {X : Type 0} → (X → Type 0) → List X → List X → Type 0
Leaves {X} P old new = (x : X) → Contains new x ↔ (Contains old x × (P x → ⊥))
