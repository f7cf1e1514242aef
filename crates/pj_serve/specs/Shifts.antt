-- What all workers did, in one journal.
use Rattle.std.specs.Prelude.{◌≡◌, ◌⊎◌, ℕ, ◌+◌, ◌<◌, ◌≤◌, List, [], ◌∷◌, ◌++◌, length, map, flat_map, All, slice_index_or, Option, Some, None}
use Rattle.pj_machine.specs.declared.journal.Entry.{Entry}
use Rattle.pj_machine.specs.declared.limits.Limits.{Limits}
use Rattle.pj_machine.specs.Legal.{IsLegal}
use Rattle.pj_session.specs.declared.end.End.{End}
use Rattle.pj_session.specs.declared.end.Ended.{Ended}
use Rattle.pj_serve.specs.declared.finish.Kept.{Kept}
use Rattle.pj_serve.specs.declared.opening.Opened.{Opened}
use Rattle.pj_serve.specs.declared.working.Worker.{Worker}
use Rattle.pj_io.specs.Meanings.{Streams, Doors}
use Rattle.pj_session.specs.Served.{Served}
use Rattle.pj_serve.specs.Workers.{HasGiven, IsGiven, IsOwnEnd}

-- what a worker leaves: its own end, if it stopped before its share was done; its sessions in the order in which they came; its door
pub record Shift (S D V : Type 0) : Type 0 where
  pub own : Option End
  pub kept : List (Kept S D)
  pub ends : List Ended
  pub door : V

-- what a worker left
abbrev pub shift_of : {T S D V : Type 0} → Worker T S D V → Shift S D V
shift_of worker = record { own = worker.own; kept = worker.kept.items; ends = worker.ends.items; door = worker.door }

module _ {S D V : Type 0} (doors : Doors V) (streams : Streams S D) (limits : Limits) (journal : List Entry) where
  -- session k of a door, with this pass, in the journal
  pub record IsSessionAt (door : V) (k pass : ℕ) (kept : Kept S D) (ended : Ended) : Type 0 where
    pub opened : Opened S D
    pub given : IsGiven doors streams door k opened
    pub kept_pass : kept.pass ≡ pass
    pub ended_pass : ended.pass ≡ pass
    pub served : Served streams limits journal pass opened.source kept.source opened.sink kept.sink ended.end

  -- A worker at this door, whose passes begin with this number. It had as many sessions as the door has fewer to give now, and they
  -- had the first of its passes.
  pub record IsShift (first : ℕ) (door : V) (shift : Shift S D V) : Type 0 where
    pub own : IsOwnEnd doors door shift.door shift.own
    pub as_many_kept : length shift.kept + doors.left shift.door ≡ doors.left door
    pub as_many_ends : length shift.ends ≡ length shift.kept
    pub door_gave : HasGiven doors door shift.door (length shift.kept)
    pub each : (k : ℕ) (r : Kept S D) (e : Ended) → k < length shift.kept →
        IsSessionAt door k (first + k) (slice_index_or shift.kept k r) (slice_index_or shift.ends k e)

  -- a worker at each door; the passes of each follow those of the one before
  abbrev pub AreShifts : ℕ → List V → List (Shift S D V) → Type 0
  AreShifts first [] [] = Unit {0}
  AreShifts first (door ∷ more) (shift ∷ shifts) = IsShift first door shift × AreShifts (first + doors.left door) more shifts
  AreShifts first [] (shift ∷ shifts) = ⊥
  AreShifts first (door ∷ more) [] = ⊥

-- the pass is that of a session of these workers
abbrev pub IsPassOf : {S D V : Type 0} → Doors V → ℕ → List V → List (Shift S D V) → ℕ → Type 0
IsPassOf doors first (door ∷ more) (shift ∷ shifts) pass =
    ((first ≤ pass) × (pass < first + length shift.kept)) ⊎ IsPassOf doors (first + doors.left door) more shifts pass
IsPassOf doors first [] shifts pass = ⊥
IsPassOf doors first (door ∷ more) [] pass = ⊥

-- the end of a worker itself, whose pass has this number
abbrev pub own_end : ℕ → Option End → List Ended
own_end number None = []
own_end number (Some its_end) = record { pass = number; end = its_end } ∷ []

-- the ends of the workers themselves, whose passes have the numbers from this one on
abbrev pub own_ends : {S D V : Type 0} → ℕ → List (Shift S D V) → List Ended
own_ends number [] = []
own_ends number (shift ∷ shifts) = own_end number shift.own ++ own_ends (number + 1) shifts

-- The journal is legal and of these sessions alone. At each of the doors that were opened stood a worker, with the passes from 1 on
-- in their order; the passes of the sessions follow. What the sessions used and how they ended stands worker by worker, and before it
-- how workers ended that stopped before their shares were done.
pub record AreServed {S D V : Type 0} (doors : Doors V) (streams : Streams S D) (limits : Limits) (journal : List Entry) (opened left : List V) (kept : List (Kept S D)) (ends : List Ended) : Type 0 where
  pub shifts : List (Shift S D V)
  pub each : AreShifts doors streams limits journal (1 + length opened) opened shifts
  pub legal : IsLegal limits journal
  pub of_sessions : All (λ e. IsPassOf doors (1 + length opened) opened shifts e.pass) journal
  pub doors_are : left ≡ map (λ s. s.door) shifts
  pub kept_are : kept ≡ flat_map (λ s. s.kept) shifts
  pub ends_are : ends ≡ own_ends 1 shifts ++ flat_map (λ s. s.ends) shifts
