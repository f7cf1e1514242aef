-- What the disk has of a session whose writes are kept.
use Rattle.std.specs.Prelude.{ℕ, ◌-◌, Bool, List, ◌++◌, length, map}
use Rattle.pj_disk.specs.Told.{Where}
use Rattle.pj_disk.specs.Image.{Only}
use Rattle.pj_disk.specs.Moments.{LeavesOnly}
use Rattle.pj_journal.specs.Log.{LogOver}
use Rattle.pj_journal.specs.Stored.{Stores}
use Rattle.pj_machine.specs.declared.command.Command.{Command}
use Rattle.pj_machine.specs.declared.reply.Numbered.{Numbered}
use Rattle.pj_session.specs.Entering.{accepted}
use Rattle.pj_wire.specs.Requests.{spelling}
use Rattle.pj_stored.specs.Prefixes.{StoresPrefix}

-- the accepted requests, as they are stored
abbrev pub kept_of : List Command → List Numbered → List (List ℕ)
kept_of xs rs = map spelling (accepted xs rs)

-- From a log that stores these strings: `all` is they, and behind them the accepted requests.
-- `Sound` says that the disk did not fail.
pub record KeptBehind {K : Type 0} (seen : K → List ℕ) (may_leave : K → List ℕ → Type 0) (moment : K → ℕ)
    (left_since : K → ℕ → List ℕ → Type 0) (old new : LogOver K) (Sound : Type 0) (strings all : List (List ℕ)) : Type 0 where
  -- at each moment each image stores a prefix of all, with the strings of before
  pub moments : LeavesOnly moment left_since old.disk new.disk (StoresPrefix (length strings) all)
  -- where it did not fail, what is read is in the end the only image, and stores all
  pub durable : Sound → Only (seen new.disk) (may_leave new.disk)
  pub stored : Sound → Stores (seen new.disk) all
  -- in any case each image of the end stores all but at most the last
  pub all_but_last : (c : List ℕ) → may_leave new.disk c → StoresPrefix (length all - 1) all c

-- whatever list the log stored before
abbrev pub KeptBy : {K : Type 0} → (K → Bool) → (K → List ℕ) → (K → List ℕ → Type 0) → (K → ℕ) → (K → ℕ → List ℕ → Type 0) →
    LogOver K → LogOver K → Type 0 → List Command → List Numbered → Type 0
KeptBy tells seen may_leave moment left_since old new Sound xs rs =
    Where (tells old.disk) ((strings : List (List ℕ)) → Stores (seen old.disk) strings →
    KeptBehind seen may_leave moment left_since old new Sound strings (strings ++ kept_of xs rs))
