-- A door that never fails, as contracts see it.
use Rattle.std.specs.Prelude.{ℕ, List}

-- a door that never fails: the sessions still to come, and how many it has given
pub record SureDoorInMemory : Type 0 where
  -- the bytes of each session still to come
  pub coming : List (List ℕ)
  -- how many pairs it has given
  pub given : ℕ

-- a door that was not called yet
abbrev pub new_sure_door : List (List ℕ) → SureDoorInMemory
new_sure_door sessions = record { coming = sessions; given = 0 }
