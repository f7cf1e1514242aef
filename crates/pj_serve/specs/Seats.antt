-- Sessions before they run.
use Rattle.std.specs.Prelude.{◌≡◌, ℕ, ◌+◌, ◌<◌, List, length, drop, slice_index_or}
use Rattle.pj_machine.specs.Call.{PassView, IsFresh}
use Rattle.pj_serve.specs.declared.opening.Opened.{Opened}
use Rattle.pj_serve.specs.declared.sessions.Seat.{Seat}

-- session i, counted from 0: a new pass with the number i + 1, and what was opened for it
pub record IsSeatOf {T S D : Type 0} (view : T → PassView) (i : ℕ) (opened : Opened S D) (seat : Seat T S D) : Type 0 where
  pub number : (view seat.pass).number ≡ i + 1
  pub fresh : IsFresh (view seat.pass)
  pub source : seat.source ≡ opened.source
  pub sink : seat.sink ≡ opened.sink

-- of all that was opened the first have their seats, and that much is left
pub record Seated {T S D : Type 0} (view : T → PassView) (all : List (Opened S D)) (seats : List (Seat T S D)) (left : List (Opened S D)) : Type 0 where
  pub count : length seats + length left ≡ length all
  pub left_is : left ≡ drop (length seats) all
  pub each : (i : ℕ) (o : Opened S D) (s : Seat T S D) → i < length seats →
      IsSeatOf view i (slice_index_or all i o) (slice_index_or seats i s)
