-- The bits that a list of words holds: a row is `width` words of 64 bits, and a square is one row after the other.
use Rattle.std.specs.Prelude.{ℕ, ◌+◌, ◌*◌, ◌/◌, ◌%◌, Bool, List, map, nat_eq, slice_index}
use Rattle.std.specs.List.{range_with_len}
use Rattle.std.specs.Int.{bit_at}

-- the bit that the words hold in a row and a column
unfoldable pub word_bit : List ℕ → ℕ → ℕ → ℕ → Bool
word_bit words width row column = nat_eq (bit_at (slice_index words (row * width + column / 64)) (column % 64)) 1

-- the square of the first `size` rows and columns
unfoldable pub rows_of : ℕ → ℕ → List ℕ → List (List Bool)
rows_of size width words = map (λ row. map (word_bit words width row) (range_with_len 0 size)) (range_with_len 0 size)

-- the bit that the words of one row hold in a column
unfoldable pub column_bit : List ℕ → ℕ → Bool
column_bit words column = nat_eq (bit_at (slice_index words (column / 64)) (column % 64)) 1

-- the row of the first `size` columns
unfoldable pub row_of : ℕ → List ℕ → List Bool
row_of size words = map (column_bit words) (range_with_len 0 size)
