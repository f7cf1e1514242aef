-- Group commit: strings are staged behind the closed gate of a log, and one opening of that gate stores them all.
use Rattle.std.specs.Prelude.{◌≡◌, ◌⊎◌, ℕ, ◌+◌, Bool, true, false, List, [], ◌∷◌, ◌++◌, length, take, Result, MatchResult}
use Rattle.pj_disk.specs.Image.{overwritten, Only}
use Rattle.pj_disk.specs.Moments.{LeavesOnly}
use Rattle.pj_journal.specs.Stored.{IsClosedAt, Spans, Reads, Stores, end_of}

-- the file with an open gate at this place
abbrev pub gate_opened : List ℕ → ℕ → List ℕ
gate_opened file place = overwritten file place (1 ∷ [])

-- The gate at the place is closed. Were it opened, entries of these strings would stand there, one behind another, up to the
-- closed gate at the end.
pub record Stages (file : List ℕ) (place end : ℕ) (strings : List (List ℕ)) : Type 0 where
  pub closed : IsClosedAt file place
  pub entries : Spans (gate_opened file place) place strings
  pub end_is : end_of place strings ≡ end
  pub end_closed : IsClosedAt file end

-- a log at its end, and what is staged there
pub record GroupOver (K : Type 0) : Type 0 where
  -- the disk that has its file
  pub disk : K
  -- where the closed gate stands behind what is stored
  pub place : ℕ
  -- where the closed gate stands behind what is staged
  pub end : ℕ
  -- whether a call of the disk failed
  pub failed : Bool

-- a log to whose end nothing was added yet
abbrev pub new_group : {K : Type 0} → K → ℕ → GroupOver K
new_group its_disk its_place = record { disk = its_disk; place = its_place; end = its_place; failed = false }

-- the image has the first n bytes of the file
abbrev pub HasPrefix : ℕ → List ℕ → List ℕ → Type 0
HasPrefix n file c = take n c ≡ take n file

-- What is read stores a list up to the place, and stages strings from there to the end. Each image has all up to the closed
-- gate at the place; where nothing is staged, what is read is the only one.
pub record IsGrouped (seen : List ℕ) (may_leave : List ℕ → Type 0) (place end : ℕ) : Type 0 where
  pub strings : List (List ℕ)
  pub reads : Reads seen strings
  pub place_is : end_of 8 strings ≡ place
  pub more : List (List ℕ)
  pub stages : Stages seen place end more
  pub kept : (c : List ℕ) → may_leave c → HasPrefix (place + 1) seen c
  pub durable : place ≡ end → Only seen may_leave

-- a run of calls of a disk before which each image had the first n bytes of what is read: so has each at any moment since
pub record KeepsPrefix {D : Type 0} (seen : D → List ℕ) (may_leave : D → List ℕ → Type 0) (moment : D → ℕ) (left_since : D → ℕ → List ℕ → Type 0)
    (n : ℕ) (old new : D) : Type 0 where
  pub images : (c : List ℕ) → may_leave new c → HasPrefix n (seen old) c
  pub stays : HasPrefix n (seen old) (seen new)
  pub moments : LeavesOnly moment left_since old new (HasPrefix n (seen old))

-- the log behind a string that was staged; after a fault nothing more is staged
abbrev pub AfterStage : {K T E : Type 0} → GroupOver K → GroupOver K → List ℕ → Result T E → Type 0
AfterStage old new string result =
    (new.place ≡ old.place) × MatchResult result
    (λ _. (new.end ≡ old.end + (9 + length string)) × (new.failed ≡ false))
    (λ _. (new.end ≡ old.end) × (new.failed ≡ true))

-- the log behind a group that was sealed; after a fault nothing more is staged
abbrev pub AfterSeal : {K T E : Type 0} → GroupOver K → GroupOver K → Result T E → Type 0
AfterSeal old new result =
    (new.end ≡ old.end) × MatchResult result
    (λ _. (new.place ≡ old.end) × (new.failed ≡ false))
    (λ _. (new.place ≡ old.place) × (new.failed ≡ true))

-- the file stores the list with the whole group, or without any of it
abbrev pub StoresAllOrNone : List (List ℕ) → List (List ℕ) → List ℕ → Type 0
StoresAllOrNone strings group file = Stores file strings ⊎ Stores file (strings ++ group)
