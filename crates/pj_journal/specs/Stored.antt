-- The list of strings that a file stores. A file has at most one such list; one with none has no reading.
use Rattle.std.specs.Prelude.{◌≡◌, ◌≢◌, ◌⊎◌, ℕ, ◌+◌, ◌<◌, ◌≤◌, ⊤, List, [], ◌∷◌, length, take, drop}
use Rattle.std.specs.Int.{w64, from_be_bytes}
use Rattle.pj_journal.specs.Format.{header, IsStorable}

-- the gate at this place is there, and its byte is 0
abbrev pub IsClosedAt : List ℕ → ℕ → Type 0
IsClosedAt file place = take 1 (drop place file) ≡ 0 ∷ []

-- at this place there is an entry with this string: a gate byte other than 0, the length in 8 bytes with the highest first,
-- and the string
pub record EntryAt (file : List ℕ) (place : ℕ) (string : List ℕ) : Type 0 where
  pub is_open : take 1 (drop place file) ≢ 0 ∷ []
  pub storable : IsStorable string
  pub size : from_be_bytes w64 (take 8 (drop (place + 1) file)) ≡ length string
  pub text : take (length string) (drop (place + 9) file) ≡ string

-- where the gate stands behind entries of these strings
abbrev pub end_of : ℕ → List (List ℕ) → ℕ
end_of place [] = place
end_of place (string ∷ strings) = end_of (place + (9 + length string)) strings

-- from this place on there are entries of these strings, one behind another
abbrev pub Spans : List ℕ → ℕ → List (List ℕ) → Type 0
Spans file place [] = ⊤
Spans file place (string ∷ strings) = EntryAt file place string × Spans file (place + (9 + length string)) strings

-- the header, entries of these strings, and a closed gate; what follows it is not looked at
pub record Reads (file : List ℕ) (strings : List (List ℕ)) : Type 0 where
  pub header : take 8 file ≡ header
  pub entries : Spans file 8 strings
  pub closed : IsClosedAt file (end_of 8 strings)

-- the file stores these strings: a file of at most 9 bytes none
abbrev pub Stores : List ℕ → List (List ℕ) → Type 0
Stores file strings = ((length file ≤ 9) × (strings ≡ [])) ⊎ ((9 < length file) × Reads file strings)

-- the file has a reading, and the closed gate behind its last string stands at this place
pub record EndsAt (file : List ℕ) (place : ℕ) : Type 0 where
  pub strings : List (List ℕ)
  pub reads : Reads file strings
  pub place_is : end_of 8 strings ≡ place

-- a file of more than 9 bytes with another header
pub record IsForeign (file : List ℕ) : Type 0 where
  pub longer : 9 < length file
  pub other : take 8 file ≢ header
