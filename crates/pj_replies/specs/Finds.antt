-- What is found at the beginning of bytes.
use Rattle.std.specs.Prelude.{ℕ, List}
use Rattle.pj_wire.specs.Spelled.{EndsWithin}
use Rattle.pj_replies.specs.declared.found.Found.{Found}
use Rattle.pj_replies.specs.declared.found.Found.TheVariants.{Whole, Part, Apart}
use Rattle.pj_replies.specs.Apart.{IsSpelled, IsApart}

-- an allowed value, a prefix of its spelling that is not all of it, or neither however the bytes go on
abbrev pub Finds : {V : Type 0} → (V → List ℕ) → (V → Type 0) → List ℕ → Found V → Type 0
Finds spelled Allowed bytes (Whole v count) = IsSpelled spelled Allowed bytes v count
Finds spelled Allowed bytes Part = EndsWithin spelled Allowed bytes
Finds spelled Allowed bytes Apart = IsApart spelled Allowed bytes

-- the first of the two that is not apart
abbrev pub first_of : {V : Type 0} → Found V → Found V → Found V
first_of Apart other = other
first_of found other = found
