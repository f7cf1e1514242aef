-- Values that are spelled as bytes, and bytes that are cut within a spelling.
use Rattle.std.specs.Prelude.{◌≡◌, ◌≢◌, ℕ, ◌<◌, List, ◌++◌, length}

-- the bytes are a front of the spelling of an allowed value, and not all of it
pub record EndsWithin {V : Type 0} (spelled : V → List ℕ) (Allowed : V → Type 0) (bytes : List ℕ) : Type 0 where
  pub value : V
  pub allowed : Allowed value
  pub missing : List ℕ
  pub whole : bytes ++ missing ≡ spelled value
  pub some : 0 < length missing

-- the bytes begin with no spelling of an allowed value
abbrev pub StandsNone : {V : Type 0} → (V → List ℕ) → (V → Type 0) → List ℕ → Type 0
StandsNone {V} spelled Allowed bytes = (v : V) (rest : List ℕ) → Allowed v → bytes ≢ spelled v ++ rest
