-- What the calls of a source do to the bytes that it has left.
use Rattle.std.specs.Prelude.{◌≡◌, ◌↔◌, ◌<◌, ℕ, Bool, false, IsTrue, List, [], ◌++◌, length, take, drop, Result, MatchResult}
use Rattle.pj_io.specs.Told.{Where}
use Rattle.pj_io.specs.Meanings.{Sources}

-- n bytes went from what is left to the front of the buffer
pub record Took (left left_after into into_after : List ℕ) (n : ℕ) : Type 0 where
  -- what was left is the n bytes at the front of the buffer, and what is left now
  pub moved : left ≡ take n into_after ++ left_after
  -- the buffer behind them is as it was
  pub rest : drop n into_after ≡ drop n into
  -- the end of the input: nothing is given to a buffer with room exactly where nothing is left
  pub end : 0 < length into → (n ≡ 0) ↔ (left ≡ [])

-- what `take` does: the bytes it gives are taken, and a failure takes none
abbrev pub Takes : {E : Type 0} → List ℕ → List ℕ → List ℕ → List ℕ → Result ℕ E → Type 0
Takes left left_after into into_after result =
    MatchResult result (Took left left_after into into_after) (λ _. left_after ≡ left)

-- a source that was just opened: it tells where its opener does, was not shut and has had no fault
pub record NewSource {S : Type 0} (opener_tells : Bool) (sources : Sources S) (source : S) : Type 0 where
  pub told : Where opener_tells (IsTrue (sources.tells source))
  pub not_shut : Where (sources.tells source) (sources.was_shut source ≡ false)
  pub no_fault : sources.faults source ≡ 0
