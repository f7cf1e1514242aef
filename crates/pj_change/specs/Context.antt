-- The context of a change c, whose needs are these records in their order: what its references have to name.
-- It is a function of the change and its needs alone, and asks of no channel (contexts are Pijul's; the table is this project's own).
use Rattle.std.specs.Prelude.{ℕ, suc, zero, ◌+◌, ◌-◌, Bool, true, false, not, ◌&&◌, ◌||◌, List, nat_le, nat_eq, Option, Some, None, slice_get, option_and_then, position}
use Rattle.std.specs.List.{list_all, range_with_len}
use Rattle.pj_name.specs.declared.name.Name.{Name}
use Rattle.pj_name.specs.Name.{same_name}
use Rattle.pj_change.specs.declared.point.Place.{Place}
use Rattle.pj_change.specs.declared.point.Ref.{Ref}
use Rattle.pj_change.specs.declared.point.Ref.TheVariants as ref
use Rattle.pj_change.specs.declared.hunk.Hunk.{Hunk}
use Rattle.pj_change.specs.declared.hunk.Hunk.TheVariants.{File, Dir, NameOf, Insert, Order, Delete, Revive}
use Rattle.pj_change.specs.declared.kind.Kind.{Kind}
use Rattle.pj_change.specs.declared.kind.Kind.TheVariants.{NameAt, FileInode, DirInode, Text}
use Rattle.pj_change.specs.declared.change.Record.{Record}
use Rattle.pj_change.specs.Positions.{kind_at, resolve, numbered, same_place, file_of}
use Rattle.pj_change.specs.Covers.{touches}

-- ---- what stands where

-- the inode of a file
abbrev pub is_file_inode : Option Kind → Bool
is_file_inode (Some (FileInode hunk)) = true
is_file_inode kind = false

-- the inode of a directory
abbrev pub is_dir_inode : Option Kind → Bool
is_dir_inode (Some (DirInode hunk)) = true
is_dir_inode kind = false

-- the file of a block of a record's change, where a byte of it stands
abbrev pub file_by : Record → Option Kind → Option Place
file_by r (Some (Text hunk first past)) = option_and_then (file_of r) (slice_get r.change.hunks hunk)
file_by r kind = None

-- the file of the byte at a position, if a byte stands there
abbrev pub file_at : Record → ℕ → Option Place
file_at r offset = file_by r (kind_at r.change.hunks offset)

-- ---- what a reference names

-- the record that a reference's number means
abbrev pub meant : Record → List Record → ℕ → Option Record
meant c needs zero = Some c
meant c needs (suc k) = slice_get needs k

-- what stands at the position that a reference names
abbrev pub kind_of : Record → List Record → Ref → Option Kind
kind_of c needs ref.Root = None
kind_of c needs (ref.At owner offset) = option_and_then (λ r. kind_at r.change.hunks offset) (meant c needs owner)

-- it is the root or a directory
abbrev pub is_parent : Record → List Record → Ref → Bool
is_parent c needs ref.Root = true
is_parent c needs (ref.At owner offset) = is_dir_inode (kind_of c needs (ref.At owner offset))

-- it is a file
abbrev pub is_file : Record → List Record → Ref → Bool
is_file c needs at = is_file_inode (kind_of c needs at)

-- it is a file or a directory
abbrev pub is_inode : Record → List Record → Ref → Bool
is_inode c needs at = is_file c needs at || is_dir_inode (kind_of c needs at)

-- a place was found, and it is this one
abbrev pub is_some_place : Place → Option Place → Bool
is_some_place at None = false
is_some_place at (Some found) = same_place found at

-- it is a byte of the file that another reference names
abbrev pub is_byte : Record → List Record → Ref → Ref → Bool
is_byte c needs file ref.Root = false
is_byte c needs file (ref.At owner offset) = is_some_place (resolve c file) (option_and_then (λ r. file_at r offset) (meant c needs owner))

-- ---- ranges

-- a range from start up to and without end, at whose start this stands, lies within one block, or is one name
abbrev pub is_one : Option Kind → ℕ → ℕ → Bool
is_one (Some (Text hunk first past)) start end = nat_le end past
is_one (Some (NameAt hunk)) start end = nat_eq end (start + 1)
is_one kind start end = false

-- the change owns the range, or deletes or revives each of its points, by whichever of its hunks
abbrev pub answers_for : Name → ℕ → ℕ → Option Record → Bool
answers_for owner start end None = false
answers_for owner start end (Some r) =
    same_name r.name owner || list_all (λ offset. touches r (record { change = owner; offset = offset })) (range_with_len start (end - start))

-- a range of a need within one block or name, and the changes under `by` answer for it
abbrev pub is_answered_for : Record → List Record → ℕ → ℕ → ℕ → List ℕ → Bool
is_answered_for c needs owner start end by =
    is_one (kind_of c needs (ref.At owner start)) start end && list_all (λ k. answers_for (numbered c owner) start end (meant c needs k)) by

-- ---- the context

-- the context of one hunk
abbrev pub holds : Record → List Record → Hunk → Bool
holds c needs (File parent name exec) = is_parent c needs parent
holds c needs (Dir parent name) = is_parent c needs parent
holds c needs (NameOf parent child name true) = is_parent c needs parent && is_file c needs child
holds c needs (NameOf parent child name false) = is_parent c needs parent && is_inode c needs child
holds c needs (Insert file ups downs bytes) =
    is_file c needs file
    && list_all (λ up. same_place (resolve c up) (resolve c file) || is_byte c needs file up) ups
    && list_all (is_byte c needs file) downs
holds c needs (Order file source target) =
    is_file c needs file && is_byte c needs file source && is_byte c needs file target && not (same_place (resolve c source) (resolve c target))
holds c needs (Delete owner start end by) = is_answered_for c needs owner start end by
holds c needs (Revive owner start end by) = is_answered_for c needs owner start end by

-- the number of the first hunk whose context does not hold, if there is one
abbrev pub first_broken : Record → List Record → Option ℕ
first_broken c needs = position (λ h. not (holds c needs h)) c.change.hunks
