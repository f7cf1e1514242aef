-- What came of restoring a log.
use Rattle.std.specs.Prelude.{◌≡◌, ◌⊎◌, ⊤, ℕ, ◌+◌, Bool, List, length, Result, Ok, Err}
use Rattle.pj_disk.specs.Told.{Where}
use Rattle.pj_journal.specs.Log.{LogOver, IsBroken}
use Rattle.pj_journal.specs.Stored.{EntryAt, Spans, Stores, end_of}
use Rattle.pj_machine.specs.declared.limits.Limits.{Limits}
use Rattle.pj_machine.specs.Call.{PassView}
use Rattle.pj_stored.specs.declared.refusal.RestoreRefusal.{RestoreRefusal}
use Rattle.pj_stored.specs.declared.refusal.RestoreRefusal.TheVariants.{Foreign, Store, Memory}
use Rattle.pj_stored.specs.Answered.{AcceptedAll, Declines, Lacks}

-- ---- the disk that comes back

-- in the log or in the refusal
abbrev pub disk_after : {K : Type 0} → Result (LogOver K) (RestoreRefusal K) → K
disk_after (Ok log) = log.disk
disk_after (Err (Foreign entry store)) = store
disk_after (Err (Store store)) = store
disk_after (Err (Memory store)) = store

-- the disk failed
abbrev pub OnStore : {T K : Type 0} → Result T (RestoreRefusal K) → Type 0 → Type 0
OnStore (Ok log) P = ⊤
OnStore (Err (Foreign entry store)) P = ⊤
OnStore (Err (Store store)) P = P
OnStore (Err (Memory store)) P = ⊤

-- ---- the strings

-- The first strings of the file are these, and each was accepted; `Then` says of them, and of the
-- pass behind them, what came next.
pub record Behind (limits : Limits) (old : PassView) (told : Bool) (file : List ℕ) (Then : List (List ℕ) → PassView → Type 0) : Type 0 where
  pub strings : List (List ℕ)
  pub middle : PassView
  pub accepted : AcceptedAll limits old strings middle
  pub spans : Where told (Spans file 8 strings)
  pub then : Then strings middle

-- The file stores these strings, and each was accepted.
pub record HasRestored (limits : Limits) (old new : PassView) (told : Bool) (file : List ℕ) : Type 0 where
  pub strings : List (List ℕ)
  pub accepted : AcceptedAll limits old strings new
  pub stored : Where told (Stores file strings)

-- there is neither an entry nor a closed gate; nothing was asked
pub record StandsNothing (middle new : PassView) (told : Bool) (file : List ℕ) (place : ℕ) : Type 0 where
  pub same : new ≡ middle
  pub broken : Where told (IsBroken file place)

-- there is an entry, which is no request that was accepted
pub record StandsOther (limits : Limits) (middle new : PassView) (told : Bool) (file : List ℕ) (place : ℕ) : Type 0 where
  pub string : List ℕ
  pub stands : Where told (EntryAt file place string)
  pub declined : Declines limits middle new string

-- there is an entry, for which there was no memory
pub record StandsMore (limits : Limits) (middle new : PassView) (told : Bool) (file : List ℕ) (place : ℕ) : Type 0 where
  pub string : List ℕ
  pub stands : Where told (EntryAt file place string)
  pub lacks : Lacks limits middle new string

-- this entry, counted from 1, is the first that is broken or not accepted
abbrev pub StoppedAt : Limits → PassView → PassView → Bool → List ℕ → ℕ → Type 0
StoppedAt limits old new told file number =
    Behind limits old told file (λ strings middle. (number ≡ length strings + 1)
    × (StandsNothing middle new told file (end_of 8 strings) ⊎ StandsOther limits middle new told file (end_of 8 strings)))

-- the strings were accepted up to one that was not read
abbrev pub Stopped : Limits → PassView → PassView → Bool → List ℕ → Type 0
Stopped limits old new told file = Behind limits old told file (λ strings middle. new ≡ middle)

-- the strings were accepted up to one for which there was no memory
abbrev pub Lacked : Limits → PassView → PassView → Bool → List ℕ → Type 0
Lacked limits old new told file =
    Behind limits old told file (λ strings middle. (new ≡ middle) ⊎ StandsMore limits middle new told file (end_of 8 strings))

-- all strings of the file were accepted, or the first of them up to one
abbrev pub Restored : {K : Type 0} → Limits → PassView → PassView → Bool → List ℕ → Result (LogOver K) (RestoreRefusal K) → Type 0
Restored limits old new told file (Ok log) = HasRestored limits old new told file
Restored limits old new told file (Err (Foreign number store)) = StoppedAt limits old new told file number
Restored limits old new told file (Err (Store store)) = Stopped limits old new told file
Restored limits old new told file (Err (Memory store)) = Lacked limits old new told file
