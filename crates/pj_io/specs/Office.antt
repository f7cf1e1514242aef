-- What an office that tells has to give.
use Rattle.std.specs.Prelude.{◌≡◌, ℕ, List, length, map}

-- What an office opens: the bytes of its input, those of the script under each path, and for an address and
-- a list of shares, at each place of that list, the bytes of that door's sessions in the order in which they come.
pub record Contents : Type 0 where
  pub input : List ℕ
  pub script : List ℕ → List ℕ
  pub sessions : List ℕ → List ℕ → List (List (List ℕ))

-- each door has as many sessions as its share
abbrev pub AsManyAsShared : Contents → Type 0
AsManyAsShared contents = (address shares : List ℕ) → map length (contents.sessions address shares) ≡ shares
