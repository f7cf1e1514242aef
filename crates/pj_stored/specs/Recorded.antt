-- One request and what the log has of it.
use Rattle.std.specs.Prelude.{◌≡◌, ◌⊎◌, ℕ, ◌≤◌, Bool, true, false, List, [], ◌∷◌, ◌++◌}
use Rattle.pj_disk.specs.Told.{Where}
use Rattle.pj_disk.specs.Causes.{Rose}
use Rattle.pj_disk.specs.Image.{Only}
use Rattle.pj_disk.specs.Moments.{LeavesOnly}
use Rattle.pj_journal.specs.Appended.{IsBeforeOrAfter}
use Rattle.pj_journal.specs.Log.{LogOver}
use Rattle.pj_journal.specs.Stored.{Stores}
use Rattle.pj_machine.specs.declared.command.Command.{Command}
use Rattle.pj_machine.specs.declared.reply.Numbered.{Numbered}
use Rattle.pj_machine.specs.Told.{is_entered}
use Rattle.pj_wire.specs.Requests.{spelling}

-- the log is at its end, no append failed, and what is read is the only image and stores a list
pub record IsReady {K : Type 0} (tells : K → Bool) (seen : K → List ℕ) (may_leave : K → List ℕ → Type 0) (log : LogOver K) : Type 0 where
  pub ended : log.ended ≡ true
  pub sound : log.failed ≡ false
  pub durable : Where (tells log.disk) (Only (seen log.disk) (may_leave log.disk))
  pub stores : Where (tells log.disk) ((strings : List (List ℕ)) × Stores (seen log.disk) strings)

-- The log behind a command with this reply: the request stands behind the list of before where it
-- was accepted, and is on the disk unless the disk failed; where it was not, nothing was done.
pub record Recorded {K : Type 0} (tells : K → Bool) (seen : K → List ℕ) (may_leave : K → List ℕ → Type 0) (moment : K → ℕ)
    (left_since : K → ℕ → List ℕ → Type 0) (faults : K → ℕ) (old : LogOver K) (x : Command) (r : Numbered) (new : LogOver K) : Type 0 where
  pub quiet : is_entered r ≡ false → new ≡ old
  pub told : tells new.disk ≡ tells old.disk
  pub count : faults old.disk ≤ faults new.disk
  -- after a failed append nothing is entered
  pub sound : is_entered r ≡ true → old.failed ≡ false
  -- an append fails only where the count rose
  pub fault : new.failed ≡ true → (old.failed ≡ true) ⊎ Rose (faults old.disk) (faults new.disk)
  -- at each moment each image stores the list of before, with the request or without
  pub moments : is_entered r ≡ true → Where (tells old.disk) ((strings : List (List ℕ)) → Stores (seen old.disk) strings →
      LeavesOnly moment left_since old.disk new.disk (IsBeforeOrAfter strings (spelling x)))
  -- where the append did not fail, what is read is the only image, and has the request
  pub durable : is_entered r ≡ true → new.failed ≡ false → Where (tells old.disk) (Only (seen new.disk) (may_leave new.disk))
  pub appended : is_entered r ≡ true → new.failed ≡ false → Where (tells old.disk) ((strings : List (List ℕ)) →
      Stores (seen old.disk) strings → Stores (seen new.disk) (strings ++ spelling x ∷ []))
