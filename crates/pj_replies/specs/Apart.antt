-- What stands at the beginning of bytes where one of some values is spelled.
use Rattle.std.specs.Prelude.{◌≡◌, ◌≢◌, ℕ, ◌≤◌, List, ◌++◌, length, drop}
use Rattle.pj_wire.specs.Spelled.{StandsNone}

-- so many of the bytes spell this allowed value
pub record IsSpelled {V : Type 0} (spelled : V → List ℕ) (Allowed : V → Type 0) (bytes : List ℕ) (value : V) (count : ℕ) : Type 0 where
  pub allowed : Allowed value
  pub within : count ≤ length bytes
  pub stands : bytes ≡ spelled value ++ drop count bytes

-- the bytes neither begin with the spelling of an allowed value nor are a prefix of one
pub record IsApart {V : Type 0} (spelled : V → List ℕ) (Allowed : V → Type 0) (bytes : List ℕ) : Type 0 where
  pub has_none : StandsNone spelled Allowed bytes
  pub begins_none : (v : V) (more : List ℕ) → Allowed v → bytes ++ more ≢ spelled v
