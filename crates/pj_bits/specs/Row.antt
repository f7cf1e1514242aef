-- A row of bits, as its list.
use Rattle.std.specs.Prelude.{ℕ, Bool, true, false, not, List, length, slice_index_or}

-- how many columns there are
abbrev pub size : List Bool → ℕ
size row = length row

-- the bit in a column; outside the row every bit is clear
unfoldable pub has : List Bool → ℕ → Bool
has row column = slice_index_or row column false

-- whether just one of two bits is set
abbrev pub differ : Bool → Bool → Bool
differ true b = not b
differ false b = b
