-- What `accept` does to the sessions that a door has still to give.
use Rattle.std.specs.Prelude.{◌≡◌, ◌<◌, ◌+◌, ℕ, Bool, IsTrue, List, ◌∷◌, Option, Some, None, Result, Ok, Err}
use Rattle.pj_io.specs.Told.{Where}
use Rattle.pj_io.specs.Meanings.{Doors}

-- a fact on the pair, if one came
abbrev pub IfPair : {S D E : Type 0} → Result (Option (S × D)) E → (S → D → Type 0) → Type 0
IfPair (Ok (Some pair)) P = P pair.0 pair.1
IfPair (Ok None) P = Unit {0}
IfPair (Err e) P = Unit {0}

-- No pair comes exactly where none is left. With a pair one less is left; else as many as before.
abbrev pub Counts : {S D E : Type 0} → ℕ → ℕ → Result (Option (S × D)) E → Type 0
Counts left left_after (Ok (Some pair)) = left ≡ left_after + 1
Counts left left_after (Ok None) = (left ≡ 0) × (left_after ≡ left)
Counts left left_after (Err e) = (0 < left) × (left_after ≡ left)

-- with a pair one more was given; else as many as before
abbrev pub CountsGiven : {S D E : Type 0} → ℕ → ℕ → Result (Option (S × D)) E → Type 0
CountsGiven given given_after (Ok (Some pair)) = given_after ≡ given + 1
CountsGiven given given_after (Ok None) = given_after ≡ given
CountsGiven given given_after (Err e) = given_after ≡ given

-- a pair's source has the first of the sessions to come, which then comes no more; else they are as before
abbrev pub Comes : {S D E : Type 0}
    → (S → List ℕ) → List (List ℕ) → List (List ℕ) → Result (Option (S × D)) E → Type 0
Comes bytes_of coming coming_after (Ok (Some pair)) = coming ≡ bytes_of pair.0 ∷ coming_after
Comes bytes_of coming coming_after (Ok None) = coming_after ≡ coming
Comes bytes_of coming coming_after (Err e) = coming_after ≡ coming

-- a door that was just opened: it tells where its opener does, has given no pair and has had no fault
pub record NewDoor {V : Type 0} (opener_tells : Bool) (doors : Doors V) (door : V) : Type 0 where
  pub told : Where opener_tells (IsTrue (doors.tells door))
  pub none_given : doors.given door ≡ 0
  pub no_fault : doors.faults door ≡ 0
