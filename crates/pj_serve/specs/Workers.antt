-- A worker at its door: the passes of its sessions, and what it does with them.
use Rattle.std.specs.Prelude.{◌≡◌, ℕ, ◌+◌, ◌<◌, ◌≤◌, List, [], ◌∷◌, length, drop, slice_index_or, Option, Some, None, vec_capacity}
use Rattle.std.specs.Fmt.{decimal}
use Rattle.pj_io.specs.Told.{Where}
use Rattle.pj_io.specs.Causes.{Rose}
use Rattle.pj_machine.specs.declared.limits.Limits.{Limits}
use Rattle.pj_machine.specs.Call.{PassView, IsFresh}
use Rattle.pj_session.specs.declared.end.End.{End}
use Rattle.pj_session.specs.declared.end.End.TheVariants.{ReadFault, Memory}
use Rattle.pj_session.specs.declared.end.Ended.{Ended}
use Rattle.pj_serve.specs.declared.finish.Kept.{Kept}
use Rattle.pj_serve.specs.declared.opening.Opened.{Opened}
use Rattle.pj_serve.specs.declared.working.Turn.{Turn}
use Rattle.pj_serve.specs.declared.working.Worker.{Worker}
use Rattle.pj_serve.specs.Opening.{IsOpened}
use Rattle.pj_io.specs.Meanings.{Streams, Doors}
use Rattle.pj_serve.specs.Served.{Spoken}

-- the pass has this number, and has made no call
pub record IsTurn {T : Type 0} (view : T → PassView) (number : ℕ) (turn : Turn T) : Type 0 where
  pub number_is : turn.number ≡ number
  pub of_pass : (view turn.pass).number ≡ number
  pub fresh : IsFresh (view turn.pass)

-- the passes have made no call, and stand beside their numbers
abbrev pub AreNew : {T : Type 0} → (T → PassView) → List (Turn T) → Type 0
AreNew {T} view turns = (k : ℕ) (d : Turn T) → k < length turns → IsTurn view (slice_index_or turns k d).number (slice_index_or turns k d)

-- new passes with the numbers from this one on
abbrev pub AreTurns : {T : Type 0} → (T → PassView) → ℕ → List (Turn T) → Type 0
AreTurns {T} view first turns = (k : ℕ) (d : Turn T) → k < length turns → IsTurn view (first + k) (slice_index_or turns k d)

-- The worker may begin: it has a new pass for each session that its door has still to give, and room for what these leave.
pub record IsReady {T S D V : Type 0} (view : T → PassView) (doors : Doors V) (worker : Worker T S D V) : Type 0 where
  pub turns : AreNew view worker.turns.items
  pub count : length worker.turns.items ≡ doors.left worker.door
  pub no_kept : worker.kept.items ≡ []
  pub no_end : worker.ends.items ≡ []
  pub kept_room : length worker.turns.items ≤ vec_capacity worker.kept
  pub ends_room : length worker.turns.items ≤ vec_capacity worker.ends

-- a worker at this door, whose passes begin with this number
pub record IsWorkerAt {T S D V : Type 0} (view : T → PassView) (doors : Doors V) (first : ℕ) (door : V) (worker : Worker T S D V) : Type 0 where
  pub door_is : worker.door ≡ door
  pub turns : AreTurns view first worker.turns.items
  pub ready : IsReady view doors worker

-- a worker at each door; the passes of each follow those of the one before
abbrev pub AreWorkers : {T S D V : Type 0} → (T → PassView) → Doors V → ℕ → List V → List (Worker T S D V) → Type 0
AreWorkers view doors first [] [] = Unit {0}
AreWorkers view doors first (door ∷ more) (worker ∷ workers) =
    IsWorkerAt view doors first door worker × AreWorkers view doors (first + doors.left door) more workers
AreWorkers view doors first [] (worker ∷ workers) = ⊥
AreWorkers view doors first (door ∷ more) [] = ⊥

-- what the door gave for its session k, counted from 0: a new source, which gives the bytes of that session where they are told, and a
-- new sink, whose label is the number of the session at this door
abbrev pub IsGiven : {S D V : Type 0} → Doors V → Streams S D → V → ℕ → Opened S D → Type 0
IsGiven doors streams door k opened =
    IsOpened streams (doors.tells door) (slice_index_or (doors.coming door) k []) (decimal (doors.given door + (k + 1))) opened

-- session k of this worker, over what its door gave, with the k-th pass
pub record WorkedAt {T S D V : Type 0} (view : T → PassView) (doors : Doors V) (streams : Streams S D) (limits : Limits) (door : V) (k : ℕ) (before after : Turn T) (kept : Kept S D) (ended : Ended) : Type 0 where
  pub opened : Opened S D
  pub given : IsGiven doors streams door k opened
  pub number : after.number ≡ before.number
  pub kept_pass : kept.pass ≡ before.number
  pub ended_pass : ended.pass ≡ before.number
  pub spoken : Spoken streams limits (view before.pass) (view after.pass) opened.source kept.source opened.sink kept.sink ended.end

-- The sessions so far had the first passes, and the other passes are as they were. There are as many as the door has given.
pub record Working {T S D V : Type 0} (view : T → PassView) (doors : Doors V) (streams : Streams S D) (limits : Limits) (old new : V) (before after : List (Turn T)) (kept : List (Kept S D)) (ends : List Ended) : Type 0 where
  pub as_many_kept : length kept + doors.left new ≡ doors.left old
  pub as_many_ends : length ends ≡ length kept
  pub as_many_turns : length after ≡ length before
  pub each : (k : ℕ) (p q : Turn T) (r : Kept S D) (e : Ended) → k < length kept →
      WorkedAt view doors streams limits old k (slice_index_or before k p) (slice_index_or after k q) (slice_index_or kept k r) (slice_index_or ends k e)
  pub others : (k : ℕ) (p : Turn T) → length kept ≤ k → slice_index_or after k p ≡ slice_index_or before k p

-- what became of the door: it gave so many sessions
pub record HasGiven {V : Type 0} (doors : Doors V) (old new : V) (sessions : ℕ) : Type 0 where
  pub told : doors.tells new ≡ doors.tells old
  pub given : doors.given new ≡ doors.given old + sessions
  pub coming : Where (doors.tells old) (doors.coming new ≡ drop sessions (doors.coming old))
  pub faults : doors.faults old ≤ doors.faults new

-- why a worker stopped: its door had no session left; or it had, and failed, or memory was wanted
abbrev pub IsOwnEnd : {V : Type 0} → Doors V → V → V → Option End → Type 0
IsOwnEnd doors old new None = doors.left new ≡ 0
IsOwnEnd doors old new (Some ReadFault) = (0 < doors.left new) × Rose (doors.faults old) (doors.faults new)
IsOwnEnd doors old new (Some Memory) = 0 < doors.left new
IsOwnEnd doors old new (Some other) = ⊥

-- what a worker did, from before to after
pub record HasWorked {T S D V : Type 0} (view : T → PassView) (doors : Doors V) (streams : Streams S D) (limits : Limits) (before after : Worker T S D V) : Type 0 where
  pub own : IsOwnEnd doors before.door after.door after.own
  pub door : HasGiven doors before.door after.door (length after.kept.items)
  pub working : Working view doors streams limits before.door after.door before.turns.items after.turns.items after.kept.items after.ends.items
