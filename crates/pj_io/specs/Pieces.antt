-- How many bytes a call in memory moves at most.
use Rattle.std.specs.Prelude.{ℕ, ◌-◌, min, IsTrue, nat_lt, List, length, slice_get, Option, None, Some}
use Rattle.std.specs.List.{list_all}

-- no piece is 0
abbrev pub AllPositive : List ℕ → Type 0
AllPositive pieces = IsTrue (list_all (λ piece. nat_lt 0 piece) pieces)

-- the piece of a call, counted from 1; the last piece serves later calls
abbrev pub piece_at : List ℕ → ℕ → Option ℕ
piece_at pieces call = slice_get pieces (min call (length pieces) - 1)

-- at most a piece; with no piece there is no bound
abbrev pub within_piece : Option ℕ → ℕ → ℕ
within_piece None count = count
within_piece (Some piece) count = min count piece
