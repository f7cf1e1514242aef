-- What `show` does.
use Rattle.std.specs.Prelude.{◌≡◌, ◌≢◌, ℕ, ◌+◌, ◌<◌, ◌≤◌, ◌⊎◌, Bool, List, [], ◌∷◌, ◌++◌, length, codes, Option, Some, None}
use Rattle.pj_io.specs.Told.{Where}
use Rattle.pj_io.specs.Causes.{Rose}
use Rattle.pj_io.specs.Sink.{AppendsFront}
use Rattle.pj_change.specs.declared.limits.TheConstants.{MOST_TEXT_BYTES}
use Rattle.pj_change.specs.declared.change.Change.{Change}
use Rattle.pj_change.specs.Parts.{spelling}
use Rattle.pj_change.specs.Shown.{shown}
use Rattle.pj_machine.specs.Answer.{IsMalformed}
use Rattle.pj_serve.specs.declared.status.Status.{Status}
use Rattle.pj_serve.specs.declared.status.Status.TheVariants.{Done, Malformed, Words, ReadFault, WriteFault, Memory, Session, Journal, Store}
use Rattle.pj_serve.specs.Opening.{OpeningFailed}
use Rattle.pj_io.specs.Meanings.{Offices, Streams}

-- the most bytes that are taken: one more than any text has
abbrev pub most_taken : ℕ
most_taken = MOST_TEXT_BYTES + 1

-- what is written of a text that no change has
abbrev pub malformed_line : List ℕ
malformed_line = codes "malformed" ++ 10 ∷ []

-- some change has this text
abbrev pub HasReading : List ℕ → Type 0
HasReading text = (change : Change) × (text ≡ spelling change)

-- the whole input was read, or as much of it as is taken
abbrev pub WasRead : List ℕ → List ℕ → Type 0
WasRead text left = (left ≡ []) ⊎ (length text ≡ most_taken)

-- what the text that was read says of the status
abbrev pub Judged : List ℕ → Status → Type 0
Judged text Done = HasReading text
Judged text WriteFault = HasReading text
Judged text Malformed = IsMalformed text
Judged text Memory = Unit {0}
Judged text ReadFault = Unit {0}
Judged text Words = ⊥
Judged text Session = ⊥
Judged text Journal = ⊥
Judged text Store = ⊥

-- The bytes that a told sink gains. `Rises` says that its count of faults rose.
abbrev pub Wrote : Type 0 → List ℕ → List ℕ → List ℕ → Status → Type 0
Wrote Rises text before after Done = (change : Change) × (text ≡ spelling change) × (after ≡ before ++ shown change)
Wrote Rises text before after WriteFault = (change : Change) × (text ≡ spelling change) × AppendsFront before after (shown change)
Wrote Rises text before after Malformed = (after ≡ before ++ malformed_line) ⊎ (Rises × AppendsFront before after malformed_line)
Wrote Rises text before after other = after ≡ before

-- Some text was taken of a source, and its bytes were judged. Where the source tells, the text and what is left are all bytes
-- that it had; `Written` says what a sink has of it.
pub record Showed (tells : Bool) (all left : List ℕ) (Written : List ℕ → Type 0) (status : Status) : Type 0 where
  pub text : List ℕ
  pub few : length text ≤ most_taken
  pub taken : Where tells (all ≡ text ++ left)
  pub read : Where tells ((status ≢ ReadFault) → (status ≢ Memory) → WasRead text left)
  pub judged : Judged text status
  pub written : Written text

module _ {O S D : Type 0} (offices : Offices O) (streams : Streams S D) (old new : O) where
  -- both were opened, the sink without a label: faults only where a count rose, and the bytes where they are told
  pub record Ran (source : S) (sink : D) (status : Status) : Type 0 where
    pub read_fault : status ≡ ReadFault → 0 < streams.sources.faults source
    pub write_fault : status ≡ WriteFault → 0 < streams.sinks.faults sink
    pub label : Where (streams.sinks.tells sink) (streams.sinks.label sink ≡ [])
    pub showed : Showed (offices.tells old) (offices.contents old).input (streams.sources.left source)
        (λ text. Where (streams.sinks.tells sink) (Wrote (0 < streams.sinks.faults sink) text [] (streams.sinks.written sink) status)) status

  -- the input is opened first, then the output; the first opening that fails ends the call
  abbrev pub Shows : Option S → Option D → Status → Type 0
  Shows None None status =
      OpeningFailed ReadFault (Rose (offices.read_faults old) (offices.read_faults new)) status
      × (offices.write_faults new ≡ offices.write_faults old)
  Shows None (Some sink) status = ⊥
  Shows (Some source) None status =
      OpeningFailed WriteFault (Rose (offices.write_faults old) (offices.write_faults new)) status
      × Where (offices.tells old) (streams.sources.left source ≡ (offices.contents old).input)
  Shows (Some source) (Some sink) status = Ran source sink status
