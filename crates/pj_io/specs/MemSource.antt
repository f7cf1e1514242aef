-- A source in memory, as contracts see it.
use Rattle.std.specs.Prelude.{◌≡◌, ℕ, Bool, false, List, drop, Result, MatchResult}
use Rattle.pj_io.specs.Causes.{one_more}

-- a source in memory: the bytes that are left, how it behaves, and how its calls went
pub record SourceInMemory : Type 0 where
  -- the bytes that are left
  pub left : List ℕ
  -- how many bytes each call gives at most; the last number serves later calls
  pub pieces : List ℕ
  -- the calls of `take` that fail, counted from 1
  pub failing : List ℕ
  -- how many calls of `take` there were
  pub calls : ℕ
  -- how many of them failed
  pub faults : ℕ
  -- whether it was shut
  pub was_shut : Bool

-- a source that was not called yet
abbrev pub new_source : List ℕ → List ℕ → List ℕ → SourceInMemory
new_source bytes its_pieces failing_calls =
    record { left = bytes; pieces = its_pieces; failing = failing_calls; calls = 0; faults = 0; was_shut = false }

-- a call of `take` is counted; the bytes that it gives leave, and its failure is counted
abbrev pub AfterTake : {E : Type 0} → SourceInMemory → SourceInMemory → Result ℕ E → Type 0
AfterTake old new result =
    MatchResult result
    (λ n. new ≡ record old { left = drop n old.left; calls = one_more old.calls })
    (λ _. new ≡ record old { calls = one_more old.calls; faults = one_more old.faults })
