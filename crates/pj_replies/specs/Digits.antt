-- The digits of a number, as far as they were read.
use Rattle.std.specs.Prelude.{ℕ, ◌≤◌, List, [], Option, Some, None, decimal}

-- the digits that were read
abbrev pub digits_read : Option ℕ → List ℕ
digits_read None = []
digits_read (Some n) = decimal n

-- the number that they write is not above this one
abbrev pub IsBelow : ℕ → Option ℕ → Type 0
IsBelow most None = Unit {0}
IsBelow most (Some n) = n ≤ most
