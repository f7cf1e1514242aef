-- What the images of a store have, from when it was given.
use Rattle.std.specs.Prelude.{ℕ, ◌-◌, List, ◌++◌, length}
use Rattle.pj_disk.specs.Told.{Where}
use Rattle.pj_disk.specs.Image.{Only}
use Rattle.pj_disk.specs.Moments.{LeavesOnly}
use Rattle.pj_journal.specs.Stored.{Stores}
use Rattle.pj_stored.specs.Prefixes.{StoresPrefix}
use Rattle.pj_keep.specs.Disks.{Disks}

module _ {K : Type 0} (disks : Disks K) (given now : K) where
  -- this of the list that the store had when it was given, where it told, and what it read was its only image
  abbrev pub OfList : (List (List ℕ) → Type 0) → Type 0
  OfList P =
      Where (disks.tells given) ((strings : List (List ℕ)) → Stores (disks.seen given) strings →
      Only (disks.seen given) (disks.may_leave given) → P strings)

  -- at each moment each image stores the list of then, and behind it a prefix of these strings
  abbrev pub LeavesPrefixes : List (List ℕ) → List (List ℕ) → Type 0
  LeavesPrefixes strings more =
      LeavesOnly disks.moment disks.left_since given now (StoresPrefix (length strings) (strings ++ more))

  -- The list of then, and behind it what was accepted; `Sound` says that the store did not fail.
  pub record KeepsAll (Sound : Type 0) (strings more : List (List ℕ)) : Type 0 where
    pub moments : LeavesPrefixes strings more
    -- where it did not fail, each image of the end stores all
    pub acknowledged : Sound → (c : List ℕ) → disks.may_leave now c → Stores c (strings ++ more)
    -- in any case all but at most the last
    pub all_but_last : (c : List ℕ) → disks.may_leave now c → StoresPrefix (length (strings ++ more) - 1) (strings ++ more) c
