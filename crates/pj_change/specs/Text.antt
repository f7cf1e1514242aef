-- The text of a change: exactly one spelling for each.
use Rattle.std.specs.Prelude.{ℕ, List, [], ◌∷◌, ◌++◌, length, map, codes, decimal, if◌then◌else◌}
use Rattle.std.specs.List.{flat_map, join_with_byte}
use Rattle.pj_name.specs.declared.name.Name.{Name}
use Rattle.pj_name.specs.Name.{hex}
use Rattle.pj_change.specs.declared.point.Ref.{Ref}
use Rattle.pj_change.specs.declared.point.Ref.TheVariants.{Root, At}
use Rattle.pj_change.specs.declared.hunk.Hunk.{Hunk}
use Rattle.pj_change.specs.declared.hunk.Hunk.TheVariants.{File, Dir, NameOf, Insert, Order, Delete, Revive}

-- what a change is made of
pub record Parts : Type 0 where
  pub version : ℕ
  pub message : List ℕ
  pub author : List ℕ
  pub time : ℕ
  pub needs : List Name
  pub knows : List Name
  pub hunks : List Hunk

-- parts from their fields
abbrev pub parts : ℕ → List ℕ → List ℕ → ℕ → List Name → List Name → List Hunk → Parts
parts version message author time needs knows hunks =
    record { version = version; message = message; author = author; time = time; needs = needs; knows = knows; hunks = hunks }

-- words with a space between each two, and a newline
abbrev pub line : List (List ℕ) → List ℕ
line words = join_with_byte 32 words ++ 10 ∷ []

-- `root`, or the owner's number and the offset with a full stop between
unfoldable pub reference : Ref → List ℕ
reference Root = codes "root"
reference (At owner offset) = decimal owner ++ codes "." ++ decimal offset

-- the references with commas between, or `-` for none
unfoldable pub references : List Ref → List ℕ
references [] = codes "-"
references (r ∷ rs) = join_with_byte 44 (map reference (r ∷ rs))

-- a range of positions of a need
unfoldable pub range : ℕ → ℕ → ℕ → List ℕ
range owner start end = decimal owner ++ codes "." ++ decimal start ++ codes "-" ++ decimal end

-- the numbers with commas between
unfoldable pub owners : List ℕ → List ℕ
owners by = join_with_byte 44 (map decimal by)

-- the first word of a hunk's line
abbrev pub word : Hunk → List ℕ
word (File parent name exec) = if exec then codes "file+x" else codes "file"
word (Dir parent name) = codes "dir"
word (NameOf parent child name exec) = if exec then codes "name+x" else codes "name"
word (Insert file ups downs bytes) = codes "insert"
word (Order file source target) = codes "order"
word (Delete owner start end by) = codes "delete"
word (Revive owner start end by) = codes "revive"

-- the other words of a hunk's line; the last one may have spaces where it is a name
abbrev pub operands : Hunk → List (List ℕ)
operands (File parent name exec) = reference parent ∷ name ∷ []
operands (Dir parent name) = reference parent ∷ name ∷ []
operands (NameOf parent child name exec) = reference parent ∷ reference child ∷ name ∷ []
operands (Insert file ups downs bytes) = reference file ∷ codes "after" ∷ references ups ∷ codes "before" ∷ references downs ∷ decimal (length bytes) ∷ []
operands (Order file source target) = reference file ∷ reference source ∷ reference target ∷ []
operands (Delete owner start end by) = range owner start end ∷ codes "by" ∷ owners by ∷ []
operands (Revive owner start end by) = range owner start end ∷ codes "by" ∷ owners by ∷ []

-- what follows a hunk's line: the bytes of an insertion, and a newline
abbrev pub body : Hunk → List ℕ
body (Insert file ups downs bytes) = bytes ++ 10 ∷ []
body h = []

-- the text of a hunk: its line, and what follows it
unfoldable pub hunk_text : Hunk → List ℕ
hunk_text h = line (word h ∷ operands h) ++ body h

-- the lines in their order
unfoldable pub text_of : Parts → List ℕ
text_of c =
    line (codes "pijul" ∷ codes "change" ∷ decimal c.version ∷ [])
    ++ line (codes "message" ∷ c.message ∷ [])
    ++ line (codes "author" ∷ c.author ∷ [])
    ++ line (codes "time" ∷ decimal c.time ∷ [])
    ++ flat_map (λ n. line (codes "needs" ∷ hex n.bytes ∷ [])) c.needs
    ++ flat_map (λ n. line (codes "knows" ∷ hex n.bytes ∷ [])) c.knows
    ++ flat_map hunk_text c.hunks
    ++ line (codes "end" ∷ [])
