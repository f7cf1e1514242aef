-- The sessions that run in threads.
use Rattle.std.specs.Prelude.{◌≡◌, ℕ, ◌+◌, ◌<◌, ◌&&◌, true, List, length, slice_index_or}
use mathlib.Core.List.{IsPrefix}
use Rattle.pj_machine.specs.declared.command.Command.{Command}
use Rattle.pj_machine.specs.declared.journal.Entry.{Entry}
use Rattle.pj_machine.specs.declared.limits.Limits.{Limits}
use Rattle.pj_machine.specs.declared.reply.Numbered.{Numbered}
use Rattle.pj_machine.specs.Call.{PassView, IsFresh}
use Rattle.pj_machine.specs.Told.{is_entered}
use Rattle.pj_load.specs.declared.seats.Seat.{Seat}
use Rattle.pj_load.specs.declared.seeing.Entering.{Entering}
use Rattle.pj_load.specs.Speech.{Speech}

-- one more reply was seen
abbrev pub Enters : Entering → Command → Numbered → Entering → Type 0
Enters s x r t = t.all ≡ (s.all && is_entered r)

-- what the session of a seat did
pub record HasSpoken {T : Type 0} (view : T → PassView) (limits : Limits) (before after : Seat T) : Type 0 where
  pub number : (view after.pass).number ≡ (view before.pass).number
  pub journal : IsPrefix (view before.pass).journal (view after.pass).journal
  pub speech : Speech Enters limits before.seen after.seen (view after.pass) before.script after.end

-- The seat of session i, counted from 0, before it runs: a new pass, which has seen the prelude, and its script.
pub record IsSeatOf {T : Type 0} (view : T → PassView) (prelude : List Entry) (i : ℕ) (script : List ℕ) (seat : Seat T) : Type 0 where
  pub number : (view seat.pass).number ≡ i + 2
  pub fresh : IsFresh (view seat.pass)
  pub begins : IsPrefix prelude (view seat.pass).journal
  pub script_is : seat.script ≡ script
  pub none_seen : seat.seen.all ≡ true

-- a seat for each script, in their order
pub record AreSeats {T : Type 0} (view : T → PassView) (prelude : List Entry) (scripts : List (List ℕ)) (seats : List (Seat T)) : Type 0 where
  pub as_many : length seats ≡ length scripts
  pub each : (i : ℕ) (d : List ℕ) (s : Seat T) → i < length seats → IsSeatOf view prelude i (slice_index_or scripts i d) (slice_index_or seats i s)

-- the passes have the numbers from 0 on, in their order
abbrev pub AreNumbered : List PassView → Type 0
AreNumbered passes = (i : ℕ) (d : PassView) → i < length passes → (slice_index_or passes i d).number ≡ i
