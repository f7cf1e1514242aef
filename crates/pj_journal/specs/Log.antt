-- A log, as contracts see it.
use Rattle.std.specs.Prelude.{◌≡◌, ◌≢◌, ℕ, ◌+◌, Bool, true, false, List, [], ◌∷◌, length, take, drop, Option, Result, Vec, MatchOption, MatchResult}
use Rattle.std.specs.declared.alloc.Global.{Global}
use Rattle.pj_disk.specs.Image.{Only}
use Rattle.pj_journal.specs.Format.{header}
use Rattle.pj_journal.specs.Stored.{IsClosedAt, EntryAt, Spans, end_of}

-- a log on a disk: where the next gate stands, and how the last calls went
pub record LogOver (K : Type 0) : Type 0 where
  -- the disk that has its file
  pub disk : K
  -- where the next gate stands
  pub place : ℕ
  -- whether the last read found that gate closed, or an append closed it
  pub ended : Bool
  -- whether an append failed
  pub failed : Bool

-- a log that was just opened
abbrev pub new_log : {K : Type 0} → K → LogOver K
new_log its_disk = record { disk = its_disk; place = 8; ended = false; failed = false }

-- The place is behind entries that begin at byte 8 of a file with the header, all of it on the disk; and where a read found
-- the end, the gate there is closed.
pub record IsKept (seen : List ℕ) (may_leave : List ℕ → Type 0) (place : ℕ) (ended : Bool) : Type 0 where
  pub strings : List (List ℕ)
  pub header : take 8 seen ≡ header
  pub entries : Spans seen 8 strings
  pub place_is : end_of 8 strings ≡ place
  pub closed : ended ≡ true → IsClosedAt seen place
  pub durable : Only seen may_leave

-- what a read found at a place
abbrev pub Found : List ℕ → ℕ → Option (Vec ℕ Global) → Type 0
Found file place found = MatchOption found (IsClosedAt file place) (λ string. EntryAt file place string.items)

-- no read can find anything there
pub record IsBroken (file : List ℕ) (place : ℕ) : Type 0 where
  pub is_open : take 1 (drop place file) ≢ 0 ∷ []
  pub none : (string : List ℕ) → EntryAt file place string → ⊥

-- the log behind what was found; after a refusal it is as before
abbrev pub AfterRead : {K E : Type 0} → LogOver K → LogOver K → Result (Option (Vec ℕ Global)) E → Type 0
AfterRead old new result =
    (new.failed ≡ old.failed) × MatchResult result
    (λ found. MatchOption found
    ((new.place ≡ old.place) × (new.ended ≡ true))
    (λ string. (new.place ≡ old.place + (9 + length string.items)) × (new.ended ≡ false)))
    (λ _. (new.place ≡ old.place) × (new.ended ≡ old.ended))

-- the log behind what was appended; after a fault it stays where it is, and nothing more is appended
abbrev pub AfterAppend : {K T E : Type 0} → LogOver K → LogOver K → List ℕ → Result T E → Type 0
AfterAppend old new string result =
    MatchResult result
    (λ _. (new.place ≡ old.place + (9 + length string)) × (new.ended ≡ true) × (new.failed ≡ false))
    (λ _. (new.place ≡ old.place) × (new.ended ≡ old.ended) × (new.failed ≡ true))
