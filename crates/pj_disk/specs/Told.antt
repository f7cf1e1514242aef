-- Clauses on contents hold where the contents are told.
use Rattle.std.specs.Prelude.{Bool, IsTrue}

-- P, where it is told
abbrev pub Where : Bool → Type 0 → Type 0
Where tells P = IsTrue tells → P
