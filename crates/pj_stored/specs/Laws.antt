-- Laws of lists that are restored. Each is the contract of a function in the module `laws`.
use Rattle.std.specs.Prelude.{◌≡◌, ℕ, ◌≤◌, true, List, [], length, take, All}
use Rattle.pj_journal.specs.Stored.{Reads, Stores}
use Rattle.pj_machine.specs.declared.journal.Entry.{Entry}
use Rattle.pj_machine.specs.declared.limits.Limits.{Limits}
use Rattle.pj_machine.specs.Call.{PassView, IsFresh, own}
use Rattle.pj_machine.specs.Entries.{commands, writes, numbered_from}
use Rattle.pj_machine.specs.Legal.{IsLegal}
use Rattle.pj_wire.specs.Requests.{IsCall}
use Rattle.pj_stored.specs.Answered.{AcceptedAll}
use Rattle.pj_stored.specs.Prefixes.{StoresPrefix}
use Rattle.pj_stored.specs.Opened.{StoppedAt}
use Rattle.pj_stored.specs.Restored.{requests_of, Restores}

-- what is restored from strings has just them as its requests
abbrev pub RequestsAreStored : Type 0
RequestsAreStored =
    (limits : Limits) (pass : ℕ) (strings : List (List ℕ)) (journal : List Entry) → Restores limits pass [] strings journal → requests_of journal ≡ strings

-- it is legal
abbrev pub RestoredIsLegal : Type 0
RestoredIsLegal = (limits : Limits) (pass : ℕ) (strings : List (List ℕ)) (journal : List Entry) → Restores limits pass [] strings journal →
    IsLegal limits journal

-- and there is at most one such journal
abbrev pub AtMostOneRestored : Type 0
AtMostOneRestored =
    (limits : Limits) (pass : ℕ) (strings : List (List ℕ)) (journal other : List Entry) →
    Restores limits pass [] strings journal → Restores limits pass [] strings other → journal ≡ other

-- a prefix of a legal journal, whose commands are requests, is restored from its requests: the same
-- writes, by the calls of one pass
abbrev pub PrefixesAreRestored : Type 0
PrefixesAreRestored =
    (limits : Limits) (pass n : ℕ) (journal : List Entry) → IsLegal limits journal → All IsCall (commands journal) →
    Restores limits pass [] (requests_of (take n journal)) (numbered_from pass 1 (writes (take n journal)))

-- an image stores the requests of so many entries at the beginning of the journal, and restores their
-- writes
pub record OpensAgain (limits : Limits) (least : ℕ) (journal : List Entry) (c : List ℕ) : Type 0 where
  pub count : ℕ
  pub enough : least ≤ count
  pub within : count ≤ length journal
  pub stored : Stores c (requests_of (take count journal))
  pub restored : Restores limits 1 [] (requests_of (take count journal)) (numbered_from 1 1 (writes (take count journal)))

-- what a crash leaves of a legal journal opens again
abbrev pub CrashesAreRestored : Type 0
CrashesAreRestored =
    (limits : Limits) (least : ℕ) (journal : List Entry) (c : List ℕ) → IsLegal limits journal → All IsCall (commands journal) →
    StoresPrefix least (requests_of journal) c → OpensAgain limits least journal c

-- strings that a new pass accepted where nothing else was entered are restored, and lead to the
-- journal that it saw
abbrev pub AcceptedAreRestored : Type 0
AcceptedAreRestored =
    (limits : Limits) (old new : PassView) (strings : List (List ℕ)) → IsFresh old → own new ≡ new.journal →
    AcceptedAll limits old strings new → Restores limits new.number [] strings new.journal

-- where a new pass stopped at an entry, and nothing else was entered, the list that the file reads
-- as cannot be restored
abbrev pub StoppedIsNotRestored : Type 0
StoppedIsNotRestored =
    (limits : Limits) (old new : PassView) (file : List ℕ) (number : ℕ) (strings : List (List ℕ)) (journal : List Entry) →
    IsFresh old → own new ≡ new.journal → StoppedAt limits old new true file number →
    Reads file strings → Restores limits new.number [] strings journal → ⊥
