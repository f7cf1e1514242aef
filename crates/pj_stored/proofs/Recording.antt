-- What an append makes of a log.
use Rattle.std.proofs.Common.{◌≡◌, ◌∙◌, ℕ, ◌≤◌, Bool, true, false, IsTrue, List, [], ◌∷◌, ◌++◌, inr, sym, subst}
use Rattle.pj_disk.specs.Told.{Where}
use Rattle.pj_disk.specs.Causes.{Rose}
use Rattle.pj_disk.specs.Image.{Only}
use Rattle.pj_disk.specs.Moments.{LeavesOnly}
use Rattle.pj_journal.specs.Appended.{IsBeforeOrAfter}
use Rattle.pj_journal.specs.Log.{LogOver}
use Rattle.pj_journal.specs.Stored.{Stores}
use Rattle.pj_machine.specs.declared.command.Command.{Command}
use Rattle.pj_machine.specs.declared.reply.Numbered.{Numbered}
use Rattle.pj_machine.specs.Told.{is_entered}
use Rattle.pj_wire.specs.Requests.{spelling}
use Rattle.pj_stored.specs.Reading.{IsRead}
use Rattle.pj_stored.specs.Recorded.{IsReady, Recorded}

-- no bit is both
both : (b : Bool) → b ≡ true → b ≡ false → ⊥
both b is isnt = let k : true ≡ false = sym is ∙ isnt in cc k

module _ {K : Type 0} (tells : K → Bool) (seen : K → List ℕ) (may_leave : K → List ℕ → Type 0) (moment : K → ℕ)
    (left_since : K → ℕ → List ℕ → Type 0) (faults : K → ℕ) where
  module _ (old new : LogOver K) (x : Command) (r : Numbered) (string : List ℕ) (spelled : string ≡ spelling x) (entered : is_entered r ≡ true)
      (ready : IsReady tells seen may_leave old) (told : tells new.disk ≡ tells old.disk) where
    -- the string stands behind the list of before
    abbrev Acknowledges : Type 0
    Acknowledges = Where (tells old.disk) ((strings : List (List ℕ)) → Stores (seen old.disk) strings → Stores (seen new.disk) (strings ++ string ∷ []))

    -- at each moment with the string or without
    abbrev Runs : Type 0
    Runs = Where (tells old.disk) ((strings : List (List ℕ)) → Stores (seen old.disk) strings →
        LeavesOnly moment left_since old.disk new.disk (IsBeforeOrAfter strings string))

    -- the append was done
    pub recorded_done : faults old.disk ≤ faults new.disk → new.failed ≡ false → Runs → Where (tells old.disk) (Only (seen new.disk) (may_leave new.disk)) →
        Acknowledges →
        Recorded tells seen may_leave moment left_since faults old x r new
    recorded_done count fine runs durable acknowledged = record {
      quiet = λ other. absurd (both (is_entered r) entered other);
      told = told;
      count = count;
      sound = λ h. ready.sound;
      fault = λ failed. absurd (both new.failed failed fine);
      moments = λ h is strings stored.
          subst (λ s. LeavesOnly moment left_since old.disk new.disk (IsBeforeOrAfter strings s)) spelled (runs is strings stored);
      durable = λ h f is. durable is;
      appended = λ h f is strings stored. subst (λ s. Stores (seen new.disk) (strings ++ s ∷ [])) spelled (acknowledged is strings stored);
    }

    -- and another can follow
    pub ready_done : new.ended ≡ true → new.failed ≡ false → Where (tells old.disk) (Only (seen new.disk) (may_leave new.disk)) → Acknowledges →
        IsReady tells seen may_leave new
    ready_done ended fine durable acknowledged = record {
      ended = ended;
      sound = fine;
      durable = λ is. durable (subst IsTrue told is);
      stores = λ is.
          let before = subst IsTrue told is in
          let list = ready.stores before in
          (list.0 ++ string ∷ [], acknowledged before list.0 list.1);
    }

    -- the append failed
    pub recorded_failed : faults old.disk ≤ faults new.disk → new.failed ≡ true → Rose (faults old.disk) (faults new.disk) → Runs →
        Recorded tells seen may_leave moment left_since faults old x r new
    recorded_failed count failed rose runs = record {
      quiet = λ other. absurd (both (is_entered r) entered other);
      told = told;
      count = count;
      sound = λ h. ready.sound;
      fault = λ h. inr rose;
      moments = λ h is strings stored.
          subst (λ s. LeavesOnly moment left_since old.disk new.disk (IsBeforeOrAfter strings s)) spelled (runs is strings stored);
      durable = λ h f is. absurd (both new.failed failed f);
      appended = λ h f is. absurd (both new.failed failed f);
    }

  -- a log that was only read, to its end
  pub ready_read : (a : K) (log : LogOver K) → IsRead tells seen may_leave moment left_since faults a log.disk → log.ended ≡ true → log.failed ≡ false →
      Where (tells a) (Only (seen a) (may_leave a)) → Where (tells a) ((strings : List (List ℕ)) × Stores (seen a) strings) → IsReady tells seen may_leave log
  ready_read a log read ended fine only stored = record {
    ended = ended;
    sound = fine;
    durable = λ is c leaves.
        let before = subst IsTrue read.told is in only before c (read.images before c leaves) ∙ sym (read.seen_is before);
    stores = λ is.
        let before = subst IsTrue read.told is in
        let list = stored before in
        (list.0, subst (λ f. Stores f list.0) (sym (read.seen_is before)) list.1);
  }
