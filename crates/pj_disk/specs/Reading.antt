-- What a read gives.
use Rattle.std.specs.Prelude.{◌≡◌, ℕ, min, List, ◌++◌, length, take, drop}

-- n bytes from this place on went to the front of the buffer: as many as there are, or as it holds
pub record ReadAt (file : List ℕ) (at : ℕ) (into into_after : List ℕ) (n : ℕ) : Type 0 where
  pub count : n ≡ min (length into) (length (drop at file))
  pub bytes : into_after ≡ take n (drop at file) ++ drop n into
