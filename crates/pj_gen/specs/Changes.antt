-- The changes of the large run. Change 0 makes eight files of 64 bytes, and each later change works on one of them.
use Rattle.std.specs.Prelude.{ℕ, zero, suc, ◌+◌, ◌*◌, ◌/◌, ◌%◌, false, List, [], ◌∷◌, codes, decimal, nat_eq, Option, Some, None, if◌then◌else◌}
use Rattle.std.specs.List.{flat_map}
use Rattle.pj_name.specs.declared.name.Name.{Name}
use Rattle.pj_name.specs.Name.{name_of, name_below}
use Rattle.pj_change.specs.declared.point.Ref.TheVariants.{Root, At}
use Rattle.pj_change.specs.declared.hunk.Hunk.{Hunk}
use Rattle.pj_change.specs.declared.hunk.Hunk.TheVariants.{File, Insert, Delete}
use Rattle.pj_change.specs.Text.{Parts, parts, line, text_of}
use Rattle.pj_gen.specs.declared.draws.Draws.{Draws}
use Rattle.pj_gen.specs.declared.changes.Insertion.{Insertion}
use Rattle.pj_gen.specs.Draws.{draws_from, number_after}

-- the numbers of the files, of the lines of a file, and of the lines of changes
abbrev pub eight : List ℕ
eight = 0 ∷ 1 ∷ 2 ∷ 3 ∷ 4 ∷ 5 ∷ 6 ∷ 7 ∷ []

-- the name of a file: the letter f and a digit
abbrev pub file_name : ℕ → List ℕ
file_name j = 102 ∷ (48 + j) ∷ []

-- the name of a line, of a file or of changes: the letter l and a digit
abbrev pub line_name : ℕ → List ℕ
line_name l = 108 ∷ (48 + l) ∷ []

-- change i
abbrev pub load_change : ℕ → List Name → List Hunk → Parts
load_change i needs hunks = parts 1 (decimal i) (codes "load") i needs [] hunks

-- ---- change 0

-- the position of a file's inode
abbrev pub inode : ℕ → ℕ
inode j = 66 * j + 1

-- the position of a file's first byte
abbrev pub first_byte : ℕ → ℕ
first_byte j = 66 * j + 2

-- the bytes of a file: eight lines of eight bytes
unfoldable pub file_bytes : ℕ → List ℕ
file_bytes j = flat_map (λ k. line (file_name j ∷ line_name k ∷ codes "." ∷ [])) eight

-- a file, and its bytes
abbrev pub file_hunks : ℕ → List Hunk
file_hunks j = File Root (file_name j) false ∷ Insert (At 0 (inode j)) (At 0 (inode j) ∷ []) [] (file_bytes j) ∷ []

-- the text of change 0
unfoldable pub zero_text : List ℕ
zero_text = text_of (load_change 0 [] (flat_map file_hunks eight))

-- the name of change 0
abbrev pub zero_name : Name
zero_name = name_of zero_text

-- ---- the later changes

-- what change i inserts: i in seven digits, and a newline
unfoldable pub numbered : ℕ → List ℕ
numbered i =
    (48 + i / 1000000 % 10) ∷ (48 + i / 100000 % 10) ∷ (48 + i / 10000 % 10) ∷ (48 + i / 1000 % 10)
    ∷ (48 + i / 100 % 10) ∷ (48 + i / 10 % 10) ∷ (48 + i % 10) ∷ 10 ∷ []

-- it deletes the line of the file that has the place drawn
unfoldable pub deletion : ℕ → Draws → Parts
deletion i d =
    let start = first_byte d.file + 8 * (d.place / 8) in
    load_change i (zero_name ∷ []) (Delete 1 start (start + 8) (1 ∷ []) ∷ [])

-- it inserts behind the byte at the place drawn, before the next one if the file has one
unfoldable pub insertion : ℕ → Draws → Parts
insertion i d =
    let at = first_byte d.file + d.place in
    let downs = if nat_eq d.place 63 then [] else At 1 (at + 1) ∷ [] in
    load_change i (zero_name ∷ []) (Insert (At 1 (inode d.file)) (At 1 at ∷ []) downs (numbered i) ∷ [])

-- it inserts behind the last byte that another change inserted; the numbers are those of change 0 and of the other among the needs
abbrev pub behind : ℕ → Insertion → ℕ → ℕ → Hunk
behind i last zero_number last_number = Insert (At zero_number (inode last.file)) (At last_number 7 ∷ []) [] (numbered i)

-- change i, which inserts behind the last insertion; its needs are change 0 and that change, by name
unfoldable pub following : ℕ → Insertion → Parts
following i last =
    if name_below zero_name last.name
    then load_change i (zero_name ∷ last.name ∷ []) (behind i last 1 2 ∷ [])
    else load_change i (last.name ∷ zero_name ∷ []) (behind i last 2 1 ∷ [])

-- change i where it inserts, by the last insertion of its line among the changes before it
abbrev pub insertion_or_following : Option Insertion → ℕ → Draws → Parts
insertion_or_following None i d = insertion i d
insertion_or_following (Some last) i d = if nat_eq d.kind 3 then following i last else insertion i d

-- change i, by the last insertion of its line among the changes before it
abbrev pub change_after : Option Insertion → ℕ → Draws → Parts
change_after last i d = if nat_eq d.kind 0 then deletion i d else insertion_or_following last i d

-- the file into which it inserts
abbrev pub file_after : Option Insertion → Draws → ℕ
file_after None d = d.file
file_after (Some last) d = if nat_eq d.kind 3 then last.file else d.file

-- the last insertion of the line, up to the change with this name
abbrev pub last_after : Option Insertion → Draws → Name → Option Insertion
last_after last d name = if nat_eq d.kind 0 then last else Some (record { name = name; file = file_after last d })

-- ---- each change by its place: change n + 1 is of the line n mod 8

-- the last insertion of a line among the changes 1 to n
unfoldable pub last_insertion : ℕ → ℕ → ℕ → Option Insertion
last_insertion number l zero = None
last_insertion number l (suc n) =
    let before = last_insertion number l n in
    let d = draws_from (number_after number n) in
    if nat_eq (n % 8) l then last_after before d (name_of (text_of (change_after before (n + 1) d))) else before

-- the text of change n + 1
unfoldable pub change_text : ℕ → ℕ → List ℕ
change_text number n = text_of (change_after (last_insertion number (n % 8) n) (n + 1) (draws_from (number_after number n)))
