-- How many classes are before a class, and counts in binary digits.
use Rattle.std.specs.Prelude.{ℕ, ◌+◌, ◌*◌, Bool, true, false, List, [], ◌∷◌}
use Rattle.pj_bits.specs.Matrix.{bit}
use Rattle.pj_bits.specs.Row.{has}

-- a bit as a number
abbrev pub digit : Bool → ℕ
digit true = 1
digit false = 0

-- how many of the listed classes are before the class
abbrev pub predecessors : List (List Bool) → List ℕ → ℕ → ℕ
predecessors before [] class = 0
predecessors before (x ∷ xs) class = digit (bit before x class) + predecessors before xs class

-- a count for each column, whose digits are rows of bits, the lowest first
abbrev pub count : List (List Bool) → ℕ → ℕ
count [] column = 0
count (row ∷ rows) column = digit (has row column) + 2 * count rows column
