-- The bytes of a stored file.
use Rattle.std.specs.Prelude.{ℕ, ◌≤◌, List, [], ◌∷◌, ◌++◌, length, codes}
use Rattle.std.specs.Int.{w64, to_be_bytes}

-- what the file begins with
abbrev pub header : List ℕ
header = codes "pijulj1" ++ 10 ∷ []

-- the file of no string: the header, and a closed gate
abbrev pub empty_file : List ℕ
empty_file = header ++ 0 ∷ []

-- the strings that can be stored
pub record IsStorable (string : List ℕ) : Type 0 where
  pub some : 1 ≤ length string
  pub most : length string ≤ 16777230

-- what is written behind a gate: the length in 8 bytes with the highest first, the string, and the closed gate that follows
abbrev pub framed : List ℕ → List ℕ
framed string = to_be_bytes w64 (length string) ++ string ++ 0 ∷ []
