-- Images that store a prefix of a list.
use Rattle.std.specs.Prelude.{◌≤◌, ℕ, List, length, take}
use Rattle.pj_journal.specs.Stored.{Stores}

-- the image stores the first of these strings, at least so many
pub record StoresPrefix (least : ℕ) (all : List (List ℕ)) (c : List ℕ) : Type 0 where
  pub count : ℕ
  pub enough : least ≤ count
  pub within : count ≤ length all
  pub stored : Stores c (take count all)
