-- A disk in memory, as contracts see it.
use Rattle.std.specs.Prelude.{◌≡◌, ◌⊎◌, ℕ, ◌-◌, List, [], ◌∷◌, ◌++◌, length, drop, Option, None, Some, Result, MatchResult, OnOk, OnErr}
use mathlib.Core.Logic.{inl, inr}
use Rattle.pj_disk.specs.Causes.{one_more}
use Rattle.pj_disk.specs.Image.{Torn}

-- from one sync to the next: what was synced, and the place and the length of each range written since, in order
pub record Stretch : Type 0 where
  pub synced : List ℕ
  pub ranges : List (ℕ × ℕ)

-- a disk in memory: what was written, what was synced, and how its calls went
pub record DiskInMemory : Type 0 where
  -- what a read gives
  pub bytes : List ℕ
  -- from the last sync on
  pub stretch : Stretch
  -- what came before it, in order
  pub past : List Stretch
  -- how many calls are left until all fail; with None there is no such end
  pub calls_left : Option ℕ
  -- how many calls failed
  pub faults : ℕ

-- nothing was written or asked, and all of it is on the disk
abbrev pub new_disk : List ℕ → Option ℕ → DiskInMemory
new_disk file calls =
    record { bytes = file; stretch = record { synced = file; ranges = [] }; past = []; calls_left = calls; faults = 0 }

-- with no stretch all of the file is on the disk
abbrev pub stretch_of : List ℕ → Option Stretch → Stretch
stretch_of file None = record { synced = file; ranges = [] }
stretch_of file (Some stretch) = stretch

-- from what was synced, through a torn write of each range
abbrev pub Reaches : List ℕ → List (ℕ × ℕ) → List ℕ → Type 0
Reaches old [] c = c ≡ old
Reaches old (range ∷ ranges) c = (d : List ℕ) × Torn range.0 range.1 old d × Reaches d ranges c

-- what a crash at some moment of the stretch may have left
abbrev pub MayLeaveIn : Stretch → List ℕ → Type 0
MayLeaveIn stretch c = Reaches stretch.synced stretch.ranges c

-- what a crash now may leave: what a read gives, or what the torn writes reach
abbrev pub MayLeave : DiskInMemory → List ℕ → Type 0
MayLeave disk c = (c ≡ disk.bytes) ⊎ MayLeaveIn disk.stretch c

-- one of the stretches may have left this
abbrev pub HadLeft : List Stretch → List ℕ → Type 0
HadLeft [] c = ⊥
HadLeft (stretch ∷ past) c = MayLeaveIn stretch c ⊎ HadLeft past c

-- what a crash may have left since the end of the t-th stretch
abbrev pub LeftSince : DiskInMemory → ℕ → List ℕ → Type 0
LeftSince disk t c = MayLeave disk c ⊎ HadLeft (drop t disk.past) c

-- one call less is left
abbrev pub one_less : Option ℕ → Option ℕ
one_less None = None
one_less (Some calls) = Some (calls - 1)

-- the disk as before, but for its calls, and for the failure that is counted
abbrev pub AfterReading : {T E : Type 0} → DiskInMemory → DiskInMemory → Result T E → Type 0
AfterReading old new result =
    MatchResult result
    (λ _. new ≡ record old { calls_left = one_less old.calls_left })
    (λ _. new ≡ record old { calls_left = one_less old.calls_left; faults = one_more old.faults })

-- What is counted, and what was synced, after a call that writes. The calls that are left go down, and a failure is
-- counted; a read gives what it gave before where the call failed.
pub record AfterWriting {T E : Type 0} (old new : DiskInMemory) (bytes synced : List ℕ) (result : Result T E) : Type 0 where
  pub calls : new.calls_left ≡ one_less old.calls_left
  pub done : OnOk result ((new.faults ≡ old.faults) × (new.bytes ≡ bytes) × (new.stretch.synced ≡ synced))
  pub failed : OnErr result ((new.faults ≡ one_more old.faults) × (new.bytes ≡ old.bytes) × (new.stretch.synced ≡ old.stretch.synced))

-- a range is noted before it is written: where the write fails it may be noted, or not
abbrev pub Notes : {T E : Type 0} → ℕ → ℕ → Stretch → Stretch → Result T E → Type 0
Notes at n old new result =
    let noted : Stretch = record old { ranges = old.ranges ++ (at, n) ∷ [] } in
    MatchResult result (λ _. new ≡ noted) (λ _. (new ≡ old) ⊎ (new ≡ noted))

-- since the last of the stretches there is what is there now
none_left : (past : List Stretch) (c : List ℕ) → HadLeft (drop (length past) past) c → ⊥
none_left [] c had = had
none_left (stretch ∷ past) c had = none_left past c had

pub only_now : (disk : DiskInMemory) (c : List ℕ) → LeftSince disk (length disk.past) c → MayLeave disk c
only_now disk c (inl now) = now
only_now disk c (inr had) = absurd (none_left disk.past c had)
