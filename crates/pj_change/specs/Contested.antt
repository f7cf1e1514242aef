-- Which `delete` hunks are contested in a set S: another change, and neither knew of the other, works on what is deleted
-- (unknown work on deleted text is a conflict in Pijul; the rule is this project's own).
use Rattle.std.specs.Prelude.{ℕ, Bool, false, not, ◌&&◌, List, Option, Some, None, slice_get, option_and_then}
use Rattle.std.specs.List.{list_any}
use Rattle.std.specs.Option.{option_map}
use Rattle.pj_name.specs.declared.name.Name.{Name}
use Rattle.pj_name.specs.Name.{same_name}
use Rattle.pj_change.specs.declared.point.Place.{Place}
use Rattle.pj_change.specs.declared.point.Place.TheVariants as placed
use Rattle.pj_change.specs.declared.point.Ref.{Ref}
use Rattle.pj_change.specs.declared.hunk.Hunk.{Hunk}
use Rattle.pj_change.specs.declared.hunk.Hunk.TheVariants.{File, Dir, NameOf, Insert, Order, Delete}
use Rattle.pj_change.specs.declared.kind.Kind.{Kind}
use Rattle.pj_change.specs.declared.kind.Kind.TheVariants.{NameAt, Text}
use Rattle.pj_change.specs.declared.kind.Deleted.{Deleted}
use Rattle.pj_change.specs.declared.kind.Deleted.TheVariants as deleted
use Rattle.pj_change.specs.declared.change.Record.{Record}
use Rattle.pj_change.specs.Positions.{kind_at, resolve, numbered, same_place, child_of}
use Rattle.pj_change.specs.Parts.{knows}
use Rattle.pj_change.specs.Covers.{is_within}

-- ---- who knows whom

-- two changes of which neither lists the other
abbrev pub are_strangers : Record → Record → Bool
are_strangers c d = not (same_name c.name d.name) && not (knows c d.name) && not (knows d c.name)

-- ---- what a hunk of record i works on

-- the place is a position of this change from start up to and without end
abbrev pub is_place_within : Name → ℕ → ℕ → Place → Bool
is_place_within owner start end placed.Root = false
is_place_within owner start end (placed.At p) = is_within owner start end p

-- the hunk inserts after a position of the range
abbrev pub inserts_after : Record → Name → ℕ → ℕ → Hunk → Bool
inserts_after i owner start end (Insert file ups downs bytes) = list_any (λ up. is_place_within owner start end (resolve i up)) ups
inserts_after i owner start end h = false

-- the file or parent of a hunk; the child of a `name` is neither
abbrev pub base_of : Hunk → Option Ref
base_of (File parent name exec) = Some parent
base_of (Dir parent name) = Some parent
base_of (NameOf parent child name exec) = Some parent
base_of (Insert file ups downs bytes) = Some file
base_of (Order file source target) = Some file
base_of h = None

-- there is a reference, and it means this place
abbrev pub is_resolved : Record → Place → Option Ref → Bool
is_resolved i at None = false
is_resolved i at (Some found) = same_place (resolve i found) at

-- the file or parent of the hunk is this place
abbrev pub builds_on : Record → Place → Hunk → Bool
builds_on i at h = is_resolved i at (base_of h)

-- ---- contested hunks

-- what a deletion deletes at a position of record o where this stands: text, or the name of a child
abbrev pub deleted_by : Record → ℕ → Option Kind → Option Deleted
deleted_by o offset (Some (Text hunk first past)) = Some deleted.Text
deleted_by o offset (Some (NameAt hunk)) = option_map deleted.NameOf (option_and_then (child_of o offset) (slice_get o.change.hunks hunk))
deleted_by o offset kind = None

-- what a deletion deletes at a position of record o
abbrev pub deleted_at : Record → ℕ → Option Deleted
deleted_at o offset = deleted_by o offset (kind_at o.change.hunks offset)

-- the hunk of i contests the deletion of a range of this owner
abbrev pub contests : Record → Name → ℕ → ℕ → Option Deleted → Hunk → Bool
-- of text, where it inserts after a byte of the range
contests i owner start end (Some deleted.Text) h = inserts_after i owner start end h
-- of a name, where its file or parent is the name's child
contests i owner start end (Some (deleted.NameOf child)) h = builds_on i child h
contests i owner start end None h = false

-- i is a stranger to d, and a hunk of it contests such a deletion by d
unfoldable pub opposes : Record → Record → Name → ℕ → ℕ → Option Deleted → Bool
opposes i d owner start end deletes = are_strangers i d && list_any (contests i owner start end deletes) i.change.hunks

-- a change of S contests the deletion of a range of o by d
abbrev pub is_range_contested : List Record → Record → Record → ℕ → ℕ → Bool
is_range_contested S d o start end = list_any (λ i. opposes i d o.name start end (deleted_at o start)) S

-- the hunk of d is contested; none but a `delete` is
abbrev pub is_hunk_contested : List Record → Record → Hunk → Bool
is_hunk_contested S d (Delete owner start end by) = list_any (λ o. same_name o.name (numbered d owner) && is_range_contested S d o start end) S
is_hunk_contested S d h = false
