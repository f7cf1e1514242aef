-- A square of bits, as its list of rows.
use Rattle.std.specs.Prelude.{ℕ, Bool, false, List, [], length, slice_index_or}

-- how many rows there are, and how many columns
abbrev pub size : List (List Bool) → ℕ
size rows = length rows

-- the bit in a row and a column; outside the square every bit is clear
unfoldable pub bit : List (List Bool) → ℕ → ℕ → Bool
bit rows row column = slice_index_or (slice_index_or rows row []) column false
