-- What came of opening the file of a disk as a store.
use Rattle.std.specs.Prelude.{◌≡◌, ℕ, Bool, ⊤, List, [], Result, Ok, Err}
use mathlib.Core.List.{IsPrefix}
use Rattle.pj_disk.specs.Told.{Where}
use Rattle.pj_disk.specs.Image.{Only}
use Rattle.pj_disk.specs.Moments.{LeavesOnly}
use Rattle.pj_journal.specs.Log.{LogOver}
use Rattle.pj_journal.specs.Stored.{Stores}
use Rattle.pj_machine.specs.declared.journal.Entry.{Entry}
use Rattle.pj_machine.specs.declared.limits.Limits.{Limits}
use Rattle.pj_machine.specs.Call.{PassView, own}
use Rattle.pj_stored.specs.declared.store.StoreRefusal.{StoreRefusal}
use Rattle.pj_stored.specs.declared.store.StoreRefusal.TheVariants.{Foreign, Store, Memory}
use Rattle.pj_stored.specs.Answered.{AcceptedAll}
use Rattle.pj_stored.specs.Opened.{HasRestored}
use Rattle.pj_stored.specs.Restored.{Restores}

-- ---- the disk that comes back

-- in the log or in the refusal
abbrev pub store_after : {K : Type 0} → Result (LogOver K) (StoreRefusal K) → K
store_after (Ok log) = log.disk
store_after (Err (Foreign store)) = store
store_after (Err (Store store)) = store
store_after (Err (Memory store)) = store

-- the disk failed
abbrev pub OnStore : {T K : Type 0} → Result T (StoreRefusal K) → Type 0 → Type 0
OnStore (Ok log) P = ⊤
OnStore (Err (Foreign store)) P = ⊤
OnStore (Err (Store store)) P = P
OnStore (Err (Memory store)) P = ⊤

-- where the disk had one image, which stored a list, each image since then stores that list
abbrev pub StaysStored : {K : Type 0} → (K → Bool) → (K → List ℕ) → (K → List ℕ → Type 0) → (K → ℕ) → (K → ℕ → List ℕ → Type 0) → K → K → Type 0
StaysStored tells seen may_leave moment left_since old new =
    Where (tells old) ((strings : List (List ℕ)) → Stores (seen old) strings → Only (seen old) (may_leave old) →
    LeavesOnly moment left_since old new (λ c. Stores c strings))

-- ---- the strings

-- the pass accepted these strings, and entered nothing else; whatever list the file stores begins with them
pub record HasLeftOff (limits : Limits) (old new : PassView) (told : Bool) (file : List ℕ) : Type 0 where
  pub strings : List (List ℕ)
  pub middle : PassView
  pub accepted : AcceptedAll limits old strings middle
  pub own_is : own new ≡ own middle
  pub begins : Where told ((all : List (List ℕ)) → Stores file all → IsPrefix strings all)

-- where nobody else entered anything, no list that the file stores can be restored
abbrev pub IsNotRestorable : Limits → PassView → Bool → List ℕ → Type 0
IsNotRestorable limits new told file =
    own new ≡ new.journal → Where told ((strings : List (List ℕ)) (journal : List Entry) →
    Stores file strings → Restores limits new.number [] strings journal → ⊥)

-- all strings of the file were accepted, or the first of them
abbrev pub StoreOpened : {K : Type 0} → Limits → PassView → PassView → Bool → List ℕ → Result (LogOver K) (StoreRefusal K) → Type 0
StoreOpened limits old new told file (Ok log) = HasRestored limits old new told file
StoreOpened limits old new told file (Err (Foreign store)) = HasLeftOff limits old new told file × IsNotRestorable limits new told file
StoreOpened limits old new told file (Err (Store store)) = HasLeftOff limits old new told file
StoreOpened limits old new told file (Err (Memory store)) = HasLeftOff limits old new told file
