-- A sink in memory, as contracts see it.
use Rattle.std.specs.Prelude.{◌≡◌, ℕ, Bool, false, List, [], ◌++◌, take, Result, MatchResult}
use Rattle.pj_io.specs.Causes.{one_more}

-- a sink in memory: what was written to it, how it behaves, and how its calls went
pub record SinkInMemory : Type 0 where
  -- the label that it was made with
  pub label : List ℕ
  -- the bytes that were written
  pub written : List ℕ
  -- how many bytes each call takes at most
  pub piece : ℕ
  -- the calls of `give` that fail, counted from 1
  pub failing : List ℕ
  -- how many calls of `give` there were
  pub calls : ℕ
  -- how many of them failed
  pub faults : ℕ
  -- whether it was shut
  pub was_shut : Bool

-- a sink that was not called yet
abbrev pub new_sink : List ℕ → ℕ → List ℕ → SinkInMemory
new_sink its_label its_piece failing_calls =
    record { label = its_label; written = []; piece = its_piece; failing = failing_calls; calls = 0; faults = 0; was_shut = false }

-- a call of `give` is counted; the bytes that it takes are appended, and its failure is counted
abbrev pub AfterGive : {E : Type 0} → SinkInMemory → SinkInMemory → List ℕ → Result ℕ E → Type 0
AfterGive old new bytes result =
    MatchResult result
    (λ n. new ≡ record old { written = old.written ++ take n bytes; calls = one_more old.calls })
    (λ _. new ≡ record old { calls = one_more old.calls; faults = one_more old.faults })
