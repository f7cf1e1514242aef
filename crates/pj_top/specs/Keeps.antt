-- What the top call promises, with what `keep` does.
use Rattle.std.specs.Prelude.{◌≡◌, ◌≢◌, ◌⊎◌, ℕ, ◌<◌, List, [], ◌∷◌, IsTrue, Some, None}
use Rattle.std.specs.declared.string.String.{String}
use Rattle.std.specs.declared.alloc.Global.{Global}
use Rattle.pj_bureau.specs.Bureaus.{Bureaus}
use Rattle.pj_io.specs.Causes.{Rose}
use Rattle.pj_io.specs.Meanings.{Offices}
use Rattle.pj_io.specs.Told.{Where}
use Rattle.pj_journal.specs.Stored.{Stores}
use Rattle.pj_keep.specs.declared.stop.Stop.TheVariants as stop
use Rattle.pj_keep.specs.Disks.{Disks}
use Rattle.pj_kept.specs.declared.life.Ending.{Ending}
use Rattle.pj_kept.specs.declared.life.Ending.TheVariants.{Spoke, Stopped}
use Rattle.pj_kept.specs.declared.life.Life.{Life}
use Rattle.pj_kept.specs.Life.{HasLived}
use Rattle.pj_machine.specs.declared.limits.Limits.{Limits}
use Rattle.pj_serve.specs.declared.opening.Opened.{Opened}
use Rattle.pj_serve.specs.declared.status.Status.{Status}
use Rattle.pj_serve.specs.declared.status.Status.TheVariants.{Journal, Store, Memory}
use Rattle.pj_serve.specs.Opening.{IsInputAndOutput, LacksOne, OpeningFailed}
use Rattle.pj_serve.specs.Outside.{Outside, KeepsOffice}
use Rattle.pj_serve.specs.Promises.{Promises}
use Rattle.pj_serve.specs.Sessions.{HoldsNone, HasStopped}
use Rattle.pj_serve.specs.Status.{exit_status, status_of_end}
use Rattle.pj_session.specs.declared.end.Ended.{Ended}
use Rattle.pj_stored.specs.Restored.{IsRestorable}
use Rattle.pj_top.specs.declared.finish.KeptFinish.{KeptFinish}
use Rattle.pj_top.specs.Words.{keep_of}

-- all that the top call works on, and the stores
pub record WithStores (B S D V K : Type 0) : Type 1 where
  pub outside : Outside B S D V
  pub bureaus : Bureaus B
  pub disks : Disks K

-- the office tells, has and counts what it did
pub record SameOffice {O : Type 0} (offices : Offices O) (old new : O) : Type 0 where
  pub telling : offices.tells new ≡ offices.tells old
  pub contents : Where (offices.tells old) (offices.contents new ≡ offices.contents old)
  pub read_faults : offices.read_faults new ≡ offices.read_faults old
  pub write_faults : offices.write_faults new ≡ offices.write_faults old

-- the status for how the life of a repository ended
abbrev pub kept_status : Ending → Status
kept_status (Spoke end) = status_of_end end
kept_status (Stopped stop.Foreign) = Journal
kept_status (Stopped stop.Store) = Store
kept_status (Stopped stop.Memory) = Memory

-- the end of pass 2, where it spoke
abbrev pub ends_of : Ending → List Ended
ends_of (Spoke end) = record { pass = 2; end = end } ∷ []
ends_of (Stopped why) = []

-- what is handed back after a life
pub record IsFinish {S D V K : Type 0} (life : Life K S D) (result : KeptFinish S D V K) : Type 0 where
  pub status : result.finish.status ≡ exit_status (kept_status life.ending)
  pub journal : result.finish.journal ≡ life.journal
  pub ends : result.finish.ends ≡ ends_of life.ending
  pub kept : result.finish.kept.items ≡ record { pass = 2; source = life.source; sink = life.sink } ∷ []
  pub input : result.finish.input ≡ None
  pub out : result.finish.out ≡ None
  pub doors : result.finish.doors.items ≡ []
  pub store : result.store ≡ Some life.store

-- a store as the office gives it under this path
pub record IsStore {B S D V K : Type 0} (given : WithStores B S D V K) (office : B) (path : List ℕ) (store : K) : Type 0 where
  pub told : Where (given.outside.offices.tells office) (IsTrue (given.disks.tells store))
  pub bytes : Where (given.outside.offices.tells office) (given.disks.seen store ≡ given.bureaus.stores office path)
  pub no_fault : given.disks.faults store ≡ 0

module _ {B S D V K : Type 0} (given : WithStores B S D V K) (limits : Limits) (old new : B) (path : List ℕ) (result : KeptFinish S D V K) where
  -- the store was not opened, or memory was wanted before: nothing is handed back
  pub record LacksStore : Type 0 where
    pub ended : Status
    pub status : result.finish.status ≡ exit_status ended
    pub cause : OpeningFailed Store (Rose (given.bureaus.faults old) (given.bureaus.faults new)) ended
    pub store : result.store ≡ None
    pub holds : HoldsNone result.finish
    -- no stream was opened
    pub office : SameOffice given.outside.offices old new

  -- the store was opened, and then not both streams: it is handed back as it was given
  pub record LacksStreams : Type 0 where
    pub opened : K
    pub is_store : IsStore given old path opened
    pub store : result.store ≡ Some opened
    pub stopped : HasStopped (LacksOne given.outside.offices given.outside.streams old new) result.finish

  -- the store and both streams were opened, and a repository lived over them
  pub record HasKeptOver : Type 0 where
    pub opened : K
    pub is_store : IsStore given old path opened
    pub streams : Opened S D
    pub are_streams : IsInputAndOutput given.outside.offices given.outside.streams old streams
    pub life : Life K S D
    pub lived : HasLived given.disks given.outside.streams limits opened streams.source streams.sink life
    pub finish : IsFinish life result

  -- what `keep` does
  pub record DoesKeep : Type 0 where
    pub outcome : HasKeptOver ⊎ (LacksStreams ⊎ LacksStore)
    -- the session ran only over a store with a restorable list
    pub restored : Where (given.outside.offices.tells old) (result.finish.ends ≢ [] →
        (strings : List (List ℕ)) × Stores (given.bureaus.stores old path) strings × IsRestorable limits strings)
    -- status 7 comes only where it has none
    pub foreign : Where (given.outside.offices.tells old) (result.finish.status ≡ exit_status Journal →
        (strings : List (List ℕ)) → Stores (given.bureaus.stores old path) strings → IsRestorable limits strings → ⊥)
    -- status 8 only where a store, or its opening, failed
    pub store_fault : result.finish.status ≡ exit_status Store →
        Rose (given.bureaus.faults old) (given.bureaus.faults new) ⊎ ((store : K) × (result.store ≡ Some store) × (0 < given.disks.faults store))

-- what the call does: `keep` for its words, and for all others what it does where no store is opened
pub record KeptPromises {B S D V K : Type 0} (given : WithStores B S D V K) (limits : Limits) (old new : B) (words : List (String Global))
    (result : KeptFinish S D V K) : Type 0 where
  pub keep : (path : List ℕ) → keep_of words ≡ Some path → DoesKeep given limits old new path result
  pub others : keep_of words ≡ None → Promises given.outside limits old new words result.finish × (result.store ≡ None)
  pub office : KeepsOffice given.outside.offices old new
