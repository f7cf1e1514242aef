-- A source that never fails, as contracts see it.
use Rattle.std.specs.Prelude.{ℕ, Bool, false, List}

-- a source that never fails: the bytes that are left, and whether it was shut
pub record SureSourceInMemory : Type 0 where
  -- the bytes that are left
  pub left : List ℕ
  -- whether it was shut
  pub was_shut : Bool

-- a source that was not called yet
abbrev pub new_sure_source : List ℕ → SureSourceInMemory
new_sure_source bytes = record { left = bytes; was_shut = false }
