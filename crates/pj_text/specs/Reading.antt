-- What stands at the front of a text, and the bytes after it: None where nothing of the kind stands there.
use Rattle.std.specs.Prelude.{ℕ, zero, suc, ◌-◌, ◌^◌, Bool, true, false, not, ◌&&◌, ◌||◌, List, [], ◌∷◌, length, take, drop, codes, nat_lt, nat_le, nat_eq, if◌then◌else◌, Option, Some, None}
use Rattle.std.specs.Char.{is_ascii_digit}
use Rattle.std.specs.List.{starts_with}
use Rattle.std.specs.Str.{bytes_eq}
use Rattle.std.specs.Str.Parse.{digits_value}
use Rattle.pj_name.specs.declared.name.Name.{Name}
use Rattle.pj_change.specs.declared.limits.TheConstants.{MOST_LIST_MEMBERS, MOST_NEEDS, MOST_KNOWN_NAMES, MOST_HUNKS}
use Rattle.pj_change.specs.declared.point.Ref.{Ref}
use Rattle.pj_change.specs.declared.point.Ref.TheVariants.{Root, At}
use Rattle.pj_change.specs.declared.hunk.Hunk.{Hunk}
use Rattle.pj_change.specs.declared.hunk.Hunk.TheVariants.{File, Dir, NameOf, Insert, Order, Delete, Revive}
use Rattle.pj_change.specs.Text.{Parts}
use Rattle.pj_text.specs.declared.hunks.Span.{Span}
use Rattle.pj_text.specs.Names.{read_name}

infixl 10 ◌>>=◌
-- what the second gives for what the first gives; None where either gives none
abbrev pub ◌>>=◌ : {A B : Type 0} → Option A → (A → Option B) → Option B
None >>= f = None
(Some x) >>= f = f x

-- ---- bytes

-- these bytes come next
abbrev pub begins : List ℕ → List ℕ → Bool
begins word bytes = starts_with nat_eq bytes word

-- just these bytes
unfoldable pub token_at : List ℕ → List ℕ → Option (Unit {0} × List ℕ)
token_at word bytes = if begins word bytes then Some (tt, drop (length word) bytes) else None

-- as many bytes
unfoldable pub bytes_at : ℕ → List ℕ → Option (List ℕ × List ℕ)
bytes_at n bytes = if nat_le n (length bytes) then Some (take n bytes, drop n bytes) else None

-- the bytes before the next newline, which is passed over
unfoldable pub line_at : List ℕ → Option (List ℕ × List ℕ)
line_at [] = None
line_at (b ∷ bytes) = if nat_eq b 10 then Some ([], bytes) else (do
  others ← line_at bytes
  Some (b ∷ others.0, others.1))

-- the bytes before the next space or newline
unfoldable pub word_of : List ℕ → List ℕ
word_of [] = []
word_of (b ∷ bytes) = if nat_eq b 32 || nat_eq b 10 then [] else b ∷ word_of bytes

-- a word of one byte or more
unfoldable pub word_at : List ℕ → Option (List ℕ × List ℕ)
word_at bytes = if nat_eq (length (word_of bytes)) 0 then None else Some (word_of bytes, drop (length (word_of bytes)) bytes)

-- ---- numbers, names and references

-- the digits at the front
unfoldable pub digits_of : List ℕ → List ℕ
digits_of [] = []
digits_of (b ∷ bytes) = if is_ascii_digit b then b ∷ digits_of bytes else []

-- one digit or more, without leading zeros
unfoldable pub is_plain : List ℕ → Bool
is_plain [] = false
is_plain (b ∷ []) = true
is_plain (b ∷ c ∷ bytes) = not (nat_eq b 48)

-- a decimal number below 2^32
unfoldable pub number_at : List ℕ → Option (ℕ × List ℕ)
number_at bytes =
    let digits = digits_of bytes in
    if is_plain digits && nat_lt (digits_value 10 digits) (2 ^ 32) then Some (digits_value 10 digits, drop (length digits) bytes) else None

-- the name of a change
unfoldable pub name_at : List ℕ → Option (Name × List ℕ)
name_at bytes = do
  digits ← bytes_at 64 bytes
  name ← read_name digits.0
  Some (name, digits.1)

-- `root`, or a number of an owner and an offset with a full stop between
unfoldable pub reference_at : List ℕ → Option (Ref × List ℕ)
reference_at bytes =
    if begins (codes "root") bytes then (do
      word ← token_at (codes "root") bytes
      Some (Root, word.1))
    else (do
      owner ← number_at bytes
      point ← token_at (codes ".") owner.1
      offset ← number_at point.1
      Some (At owner.0 offset.0, offset.1))

-- ---- lists

-- items while the bytes ask for one more, at most so many
unfoldable pub many_at : {X : Type 0} → (List ℕ → Bool) → (List ℕ → Option (X × List ℕ)) → ℕ → List ℕ → Option (List X × List ℕ)
many_at more item zero bytes = Some ([], bytes)
many_at more item (suc n) bytes = if more bytes then (do
  first ← item bytes
  others ← many_at more item n first.1
  Some (first.0 ∷ others.0, others.1)) else Some ([], bytes)

-- an item after a comma
unfoldable pub next_at : {X : Type 0} → (List ℕ → Option (X × List ℕ)) → List ℕ → Option (X × List ℕ)
next_at item bytes = do
  comma ← token_at (codes ",") bytes
  item comma.1

-- so many items after commas, at most
abbrev pub others_at : {X : Type 0} → (List ℕ → Option (X × List ℕ)) → ℕ → List ℕ → Option (List X × List ℕ)
others_at item = many_at (begins (codes ",")) (next_at item)

-- one or more items with commas between, as many as a list may have
unfoldable pub joined_at : {X : Type 0} → (List ℕ → Option (X × List ℕ)) → List ℕ → Option (List X × List ℕ)
joined_at item bytes = do
  first ← item bytes
  others ← others_at item (MOST_LIST_MEMBERS - 1) first.1
  Some (first.0 ∷ others.0, others.1)

-- references, or `-` for none
unfoldable pub references_at : List ℕ → Option (List Ref × List ℕ)
references_at bytes =
    if begins (codes "-") bytes then (do
      dash ← token_at (codes "-") bytes
      Some ([], dash.1))
    else joined_at reference_at bytes

-- ---- hunks

-- a reference after a space
unfoldable pub operand_at : List ℕ → Option (Ref × List ℕ)
operand_at bytes = do
  space ← token_at (codes " ") bytes
  reference_at space.1

-- a name after a space, to the end of the line
unfoldable pub label_at : List ℕ → Option (List ℕ × List ℕ)
label_at bytes = do
  space ← token_at (codes " ") bytes
  line_at space.1

-- the operands of a hunk that makes a file and its name
unfoldable pub file_at : Bool → List ℕ → Option (Hunk × List ℕ)
file_at exec bytes = do
  parent ← operand_at bytes
  name ← label_at parent.1
  Some (File parent.0 name.0 exec, name.1)

-- the operands of a hunk that makes a directory and its name
unfoldable pub dir_at : List ℕ → Option (Hunk × List ℕ)
dir_at bytes = do
  parent ← operand_at bytes
  name ← label_at parent.1
  Some (Dir parent.0 name.0, name.1)

-- the operands of a hunk that gives something one name more
unfoldable pub name_of_at : Bool → List ℕ → Option (Hunk × List ℕ)
name_of_at exec bytes = do
  parent ← operand_at bytes
  child ← operand_at parent.1
  name ← label_at child.1
  Some (NameOf parent.0 child.0 name.0 exec, name.1)

-- a number, a newline, as many bytes as it says, and a newline
unfoldable pub block_at : List ℕ → Option (List ℕ × List ℕ)
block_at bytes = do
  count ← number_at bytes
  newline ← token_at (codes "\n") count.1
  block ← bytes_at count.0 newline.1
  end ← token_at (codes "\n") block.1
  Some (block.0, end.1)

-- the operands of an insertion, and the bytes that it inserts
unfoldable pub insert_at : List ℕ → Option (Hunk × List ℕ)
insert_at bytes = do
  file ← operand_at bytes
  after ← token_at (codes " after ") file.1
  ups ← references_at after.1
  before ← token_at (codes " before ") ups.1
  downs ← references_at before.1
  space ← token_at (codes " ") downs.1
  block ← block_at space.1
  Some (Insert file.0 ups.0 downs.0 block.0, block.1)

-- the operands of a hunk that orders two points of a file
unfoldable pub order_at : List ℕ → Option (Hunk × List ℕ)
order_at bytes = do
  file ← operand_at bytes
  source ← operand_at file.1
  target ← operand_at source.1
  newline ← token_at (codes "\n") target.1
  Some (Order file.0 source.0 target.0, newline.1)

-- positions of a need
unfoldable pub range_at : List ℕ → Option (Span × List ℕ)
range_at bytes = do
  owner ← number_at bytes
  point ← token_at (codes ".") owner.1
  start ← number_at point.1
  dash ← token_at (codes "-") start.1
  end ← number_at dash.1
  Some (record { owner = owner.0; start = start.0; end = end.0 }, end.1)

-- the owners of versions, to the end of the line
unfoldable pub owners_at : List ℕ → Option (List ℕ × List ℕ)
owners_at bytes = do
  word ← token_at (codes " by ") bytes
  by ← joined_at number_at word.1
  newline ← token_at (codes "\n") by.1
  Some (by.0, newline.1)

-- the operands of a deletion: a range of positions, and owners of versions
unfoldable pub delete_at : List ℕ → Option (Hunk × List ℕ)
delete_at bytes = do
  space ← token_at (codes " ") bytes
  range ← range_at space.1
  by ← owners_at range.1
  Some (Delete range.0.owner range.0.start range.0.end by.0, by.1)

-- the operands of a revival: a range of positions, and owners of versions
unfoldable pub revive_at : List ℕ → Option (Hunk × List ℕ)
revive_at bytes = do
  space ← token_at (codes " ") bytes
  range ← range_at space.1
  by ← owners_at range.1
  Some (Revive range.0.owner range.0.start range.0.end by.0, by.1)

-- the operands of a hunk with this first word, and its body
unfoldable pub operands_at : List ℕ → List ℕ → Option (Hunk × List ℕ)
operands_at word bytes =
    if bytes_eq word (codes "file") then file_at false bytes
    else if bytes_eq word (codes "file+x") then file_at true bytes
    else if bytes_eq word (codes "dir") then dir_at bytes
    else if bytes_eq word (codes "name") then name_of_at false bytes
    else if bytes_eq word (codes "name+x") then name_of_at true bytes
    else if bytes_eq word (codes "insert") then insert_at bytes
    else if bytes_eq word (codes "order") then order_at bytes
    else if bytes_eq word (codes "delete") then delete_at bytes
    else if bytes_eq word (codes "revive") then revive_at bytes
    else None

-- a hunk: its first word, and what follows it
unfoldable pub hunk_at : List ℕ → Option (Hunk × List ℕ)
hunk_at bytes = do
  word ← word_at bytes
  operands_at word.0 word.1

-- hunks before the line `end`, at most so many
abbrev pub hunks_at : ℕ → List ℕ → Option (List Hunk × List ℕ)
hunks_at = many_at (λ bytes. not (begins (codes "end") bytes)) hunk_at

-- ---- the header

-- a line of a label and free text
unfoldable pub text_line_at : List ℕ → List ℕ → Option (List ℕ × List ℕ)
text_line_at label bytes = do
  front ← token_at label bytes
  line_at front.1

-- a line of a label and a number
unfoldable pub number_line_at : List ℕ → List ℕ → Option (ℕ × List ℕ)
number_line_at label bytes = do
  front ← token_at label bytes
  number ← number_at front.1
  newline ← token_at (codes "\n") number.1
  Some (number.0, newline.1)

-- a line of a label and the name of a change
unfoldable pub name_line_at : List ℕ → List ℕ → Option (Name × List ℕ)
name_line_at label bytes = do
  front ← token_at label bytes
  name ← name_at front.1
  newline ← token_at (codes "\n") name.1
  Some (name.0, newline.1)

-- lines with this label, at most so many
abbrev pub names_at : List ℕ → ℕ → List ℕ → Option (List Name × List ℕ)
names_at label = many_at (begins label) (name_line_at label)

-- the line with the version, which is a byte
unfoldable pub version_at : List ℕ → Option (ℕ × List ℕ)
version_at bytes = do
  version ← number_line_at (codes "pijul change ") bytes
  if nat_lt version.0 256 then Some version else None

-- ---- the whole

-- the line `end`, with nothing after it
unfoldable pub end_at : List ℕ → Option (Unit {0} × List ℕ)
end_at bytes = do
  end ← token_at (codes "end\n") bytes
  if nat_eq (length end.1) 0 then Some end else None

-- the parts of a change, whatever its rules say of them
unfoldable pub parts_at : List ℕ → Option Parts
parts_at bytes = do
  version ← version_at bytes
  message ← text_line_at (codes "message ") version.1
  author ← text_line_at (codes "author ") message.1
  time ← number_line_at (codes "time ") author.1
  needs ← names_at (codes "needs ") MOST_NEEDS time.1
  knows ← names_at (codes "knows ") MOST_KNOWN_NAMES needs.1
  hunks ← hunks_at MOST_HUNKS knows.1
  end ← end_at hunks.1
  Some (record { version = version.0; message = message.0; author = author.0; time = time.0; needs = needs.0; knows = knows.0; hunks = hunks.0 })
