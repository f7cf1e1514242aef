-- What an opening and an appending make of a file, and what a crash may leave in the middle of one.
use Rattle.std.specs.Prelude.{◌⊎◌, ℕ, ◌+◌, ◌≤◌, nat_le, if◌then◌else◌, List, [], ◌∷◌, ◌++◌, length}
use Rattle.pj_disk.specs.Image.{overwritten, Torn}
use Rattle.pj_journal.specs.Format.{empty_file, framed}
use Rattle.pj_journal.specs.Stored.{Stores}

-- a file of at most 9 bytes is written anew
abbrev pub opened : List ℕ → List ℕ
opened file = if nat_le (length file) 9 then empty_file else file

-- what a crash may have left of it: an image of before, or one of at most 9 bytes where the file had no more
abbrev pub LeftByOpen : (List ℕ → Type 0) → List ℕ → List ℕ → Type 0
LeftByOpen before file c = before c ⊎ ((length file ≤ 9) × (length c ≤ 9))

-- a frame stands behind the gate at this place, which is still closed, and then the gate is opened
abbrev pub put_at : List ℕ → ℕ → List ℕ → List ℕ
put_at file place frame = overwritten (overwritten file (place + 1) frame) place (1 ∷ [])

-- what a crash may have left of the file in the middle of that: each is one write, with a sync behind it
abbrev pub LeftByPut : List ℕ → ℕ → List ℕ → List ℕ → Type 0
LeftByPut file place frame c =
    Torn (place + 1) (length frame) file c ⊎ Torn place 1 (overwritten file (place + 1) frame) c

-- a string is appended at this place
abbrev pub appended : List ℕ → ℕ → List ℕ → List ℕ
appended file place string = put_at file place (framed string)

-- what a crash may have left of the file while a string was appended at this place
abbrev pub LeftByAppend : List ℕ → ℕ → List ℕ → List ℕ → Type 0
LeftByAppend file place string = LeftByPut file place (framed string)

-- the file stores the list with the new string, or without it
abbrev pub IsBeforeOrAfter : List (List ℕ) → List ℕ → List ℕ → Type 0
IsBeforeOrAfter strings string file = Stores file strings ⊎ Stores file (strings ++ string ∷ [])
