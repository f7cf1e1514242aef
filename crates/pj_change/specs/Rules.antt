-- The rules that the parts of a change keep.
use Rattle.std.specs.Prelude.{ℕ, ◌+◌, ◌^◌, ◌<◌, ◌≤◌, Bool, true, false, not, ◌&&◌, ◌||◌, IsTrue, List, [], ◌∷◌, length, codes, nat_lt, nat_le, nat_eq, if◌then◌else◌}
use Rattle.std.specs.List.{list_any, list_all}
use Rattle.std.specs.Str.{bytes_eq}
use Rattle.pj_name.specs.Name.{name_below, same_name}
use Rattle.pj_change.specs.declared.limits.TheConstants.{MOST_LINE_BYTES, MOST_NAME_BYTES, MOST_LIST_MEMBERS, MOST_NEEDS, MOST_KNOWN_NAMES, MOST_HUNKS, MOST_BYTES_OF_VERSION_1, MOST_TEXT_BYTES}
use Rattle.pj_change.specs.declared.point.Ref.{Ref}
use Rattle.pj_change.specs.declared.point.Ref.TheVariants as ref
use Rattle.pj_change.specs.declared.hunk.Hunk.{Hunk}
use Rattle.pj_change.specs.declared.hunk.Hunk.TheVariants.{File, Dir, NameOf, Insert, Order, Delete, Revive}
use Rattle.pj_change.specs.Text.{Parts, text_of}

-- ---- lists

-- each member is below the next by the test
unfoldable pub rising : {X : Type 0} → (X → X → Bool) → List X → Bool
rising below [] = true
rising below (x ∷ []) = true
rising below (x ∷ y ∷ xs) = below x y && rising below (y ∷ xs)

-- the test holds of each member with each later one
unfoldable pub each_pair : {X : Type 0} → (X → X → Bool) → List X → Bool
each_pair test [] = true
each_pair test (x ∷ xs) = list_all (test x) xs && each_pair test xs

-- the byte is not among these
abbrev pub lacks : ℕ → List ℕ → Bool
lacks byte bytes = list_all (λ b. not (nat_eq b byte)) bytes

-- ---- positions

-- how many positions a hunk takes
abbrev pub position_count : Hunk → ℕ
position_count (File parent name exec) = 2
position_count (Dir parent name) = 2
position_count (NameOf parent child name exec) = 1
position_count (Insert file ups downs bytes) = length bytes
position_count h = 0

-- ---- the rules of a hunk

-- the bytes of a line, no more than it may have, without newline
unfoldable pub is_line : List ℕ → Bool
is_line bytes = nat_le (length bytes) MOST_LINE_BYTES && lacks 10 bytes

-- one or more bytes, no more than a name may have, without 0, newline and '/', and neither '.' nor '..'
unfoldable pub is_file_name : List ℕ → Bool
is_file_name bytes =
    nat_le 1 (length bytes) && nat_le (length bytes) MOST_NAME_BYTES
    && lacks 0 bytes && lacks 10 bytes && lacks 47 bytes
    && not (bytes_eq bytes (codes ".")) && not (bytes_eq bytes (codes ".."))

-- the root first, then by the owner's number, then by offset
unfoldable pub ref_below : Ref → Ref → Bool
ref_below ref.Root ref.Root = false
ref_below ref.Root (ref.At k o) = true
ref_below (ref.At k o) ref.Root = false
ref_below (ref.At k o) (ref.At l p) = nat_lt k l || (nat_eq k l && nat_lt o p)

-- the root, a position of one of the needs, or a position of this change below the first of the hunk
unfoldable pub is_ref : ℕ → ℕ → Ref → Bool
is_ref needs first ref.Root = true
is_ref needs first (ref.At owner offset) = nat_le owner needs && nat_lt offset (2 ^ 32) && (not (nat_eq owner 0) || nat_lt offset first)

-- no more than a list may have, rising
unfoldable pub are_refs : ℕ → ℕ → List Ref → Bool
are_refs needs first refs = nat_le (length refs) MOST_LIST_MEMBERS && rising ref_below refs && list_all (is_ref needs first) refs

-- the number of a need, counted from 1
unfoldable pub is_need : ℕ → ℕ → Bool
is_need needs k = nat_le 1 k && nat_le k needs

-- one or more numbers of needs, no more than a list may have, rising
unfoldable pub are_owners : ℕ → List ℕ → Bool
are_owners needs by = nat_le 1 (length by) && nat_le (length by) MOST_LIST_MEMBERS && rising nat_lt by && list_all (is_need needs) by

-- one or more positions of a need, by some needs
unfoldable pub is_range : ℕ → ℕ → ℕ → ℕ → List ℕ → Bool
is_range needs owner start end by = is_need needs owner && nat_lt start end && nat_lt end (2 ^ 32) && are_owners needs by

-- a hunk whose first position is first, in a change with so many needs
unfoldable pub is_hunk : ℕ → ℕ → Hunk → Bool
is_hunk needs first (File parent name exec) = is_ref needs first parent && is_file_name name
is_hunk needs first (Dir parent name) = is_ref needs first parent && is_file_name name
is_hunk needs first (NameOf parent child name exec) = is_ref needs first parent && is_ref needs first child && is_file_name name
is_hunk needs first (Insert file ups downs bytes) =
    is_ref needs first file && nat_le 1 (length ups) && are_refs needs first ups && are_refs needs first downs && nat_le 1 (length bytes)
is_hunk needs first (Order file source target) = is_ref needs first file && is_ref needs first source && is_ref needs first target
is_hunk needs first (Delete owner start end by) = is_range needs owner start end by
is_hunk needs first (Revive owner start end by) = is_range needs owner start end by

-- the hunk keeps its rules at some place of some change
pub record KeepsRules (h : Hunk) : Type 0 where
  pub needs : ℕ
  pub first : ℕ
  pub is : IsTrue (is_hunk needs first h)

-- each of the hunks, from the position first on
unfoldable pub are_hunks : ℕ → ℕ → List Hunk → Bool
are_hunks needs first [] = true
are_hunks needs first (h ∷ hs) = is_hunk needs first h && are_hunks needs (first + position_count h) hs

-- ---- the rules of a change

-- the first version of the text that has the hunk
abbrev pub version_of : Hunk → ℕ
version_of (File parent name exec) = if exec then 2 else 1
version_of (NameOf parent child name exec) = if exec then 2 else 1
version_of (Revive owner start end by) = 2
version_of h = 1

-- two ranges are of different needs, or one ends before the other begins
abbrev pub ranges_apart : ℕ → ℕ → ℕ → ℕ → ℕ → ℕ → Bool
ranges_apart k a b l c d = not (nat_eq k l) || nat_le b c || nat_le d a

-- two hunks that delete or revive have no position in common
abbrev pub apart : Hunk → Hunk → Bool
apart (Delete k a b by) (Delete l c d by') = ranges_apart k a b l c d
apart (Delete k a b by) (Revive l c d by') = ranges_apart k a b l c d
apart (Revive k a b by) (Delete l c d by') = ranges_apart k a b l c d
apart (Revive k a b by) (Revive l c d by') = ranges_apart k a b l c d
apart g h = true

-- the most bytes of a text of this version
abbrev pub longest : ℕ → ℕ
longest version = if nat_eq version 1 then MOST_BYTES_OF_VERSION_1 else MOST_TEXT_BYTES

-- what makes parts a change
pub record IsChange (c : Parts) : Type 0 where
  pub version : IsTrue (nat_eq c.version 1 || nat_eq c.version 2)
  pub message : IsTrue (is_line c.message)
  pub author : IsTrue (is_line c.author)
  pub time : c.time < 2 ^ 32
  pub few_needs : length c.needs ≤ MOST_NEEDS
  pub few_knows : length c.knows ≤ MOST_KNOWN_NAMES
  pub few_hunks : length c.hunks ≤ MOST_HUNKS
  pub needs_rise : IsTrue (rising name_below c.needs)
  pub knows_rise : IsTrue (rising name_below c.knows)
  pub no_need_known : IsTrue (list_all (λ k. not (list_any (same_name k) c.needs)) c.knows)
  pub versions : IsTrue (list_all (λ h. nat_le (version_of h) c.version) c.hunks)
  pub hunks : IsTrue (are_hunks (length c.needs) 0 c.hunks)
  pub disjoint : IsTrue (each_pair apart c.hunks)
  pub short : length (text_of c) ≤ longest c.version
