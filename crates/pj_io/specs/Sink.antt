-- What the calls of a sink do to the bytes that were written.
use Rattle.std.specs.Prelude.{◌≡◌, ◌≤◌, ℕ, false, List, [], ◌++◌, length, take, Result, MatchResult}
use Rattle.pj_io.specs.Told.{Where}
use Rattle.pj_io.specs.Meanings.{Sinks}

-- what `give` does: the first n bytes are appended, and a failure appends none
abbrev pub Gives : {E : Type 0} → List ℕ → List ℕ → List ℕ → Result ℕ E → Type 0
Gives written written_after bytes result =
    MatchResult result (λ n. written_after ≡ written ++ take n bytes) (λ _. written_after ≡ written)

-- some front of the bytes is appended
abbrev pub AppendsFront : List ℕ → List ℕ → List ℕ → Type 0
AppendsFront written written_after bytes =
    (n : ℕ) × (n ≤ length bytes) × (written_after ≡ written ++ take n bytes)

-- what `give_all` does: all bytes are appended, and on a fault some front of them
abbrev pub GivesAll : {T E : Type 0} → List ℕ → List ℕ → List ℕ → Result T E → Type 0
GivesAll written written_after bytes result =
    MatchResult result (λ _. written_after ≡ written ++ bytes) (λ _. AppendsFront written written_after bytes)

-- a sink that was just opened: nothing was written, it was not shut and has had no fault
pub record NewSink {D : Type 0} (sinks : Sinks D) (sink : D) : Type 0 where
  pub empty : Where (sinks.tells sink) (sinks.written sink ≡ [])
  pub not_shut : Where (sinks.tells sink) (sinks.was_shut sink ≡ false)
  pub no_fault : sinks.faults sink ≡ 0
