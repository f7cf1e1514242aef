-- What a repository leaves that was to be restored from a store: its journal, the streams of its session, and the store.
use Rattle.std.specs.Prelude.{◌≡◌, ◌≢◌, ℕ, ◌≤◌, List, [], ◌++◌, All}
use mathlib.Core.List.{IsPrefix}
use Rattle.pj_disk.specs.Told.{Where}
use Rattle.pj_io.specs.Causes.{Rose}
use Rattle.pj_io.specs.Meanings.{Streams}
use Rattle.pj_journal.specs.Stored.{Stores}
use Rattle.pj_machine.specs.declared.journal.Entry.{Entry}
use Rattle.pj_machine.specs.declared.limits.Limits.{Limits}
use Rattle.pj_machine.specs.Entries.{writes, numbered_from}
use Rattle.pj_machine.specs.Legal.{IsLegal}
use Rattle.pj_session.specs.declared.end.End.{End}
use Rattle.pj_session.specs.declared.end.End.TheVariants.{StoreFault}
use Rattle.pj_session.specs.Served.{ServedBy}
use Rattle.pj_stored.specs.Restored.{requests_of, Restores, IsRestorable}
use Rattle.pj_keep.specs.declared.stop.Stop.{Stop}
use Rattle.pj_keep.specs.declared.stop.Stop.TheVariants.{Foreign, Store, Memory}
use Rattle.pj_keep.specs.Disks.{Disks}
use Rattle.pj_keep.specs.Images.{OfList, LeavesPrefixes, KeepsAll}

module _ {K : Type 0} (disks : Disks K) (limits : Limits) (given now : K) (journal : List Entry) where
  -- The whole list was restored by pass 1, and then pass 2 spoke.
  pub record HasKept {S D : Type 0} (streams : Streams S D) (source source' : S) (sink sink' : D) (end : End) : Type 0 where
    pub first : List Entry
    pub second : List Entry
    pub whole : journal ≡ first ++ second
    pub legal : IsLegal limits journal
    -- the entries of pass 1 come first, and are the writes of the stored requests, by its calls 1, 2 and so on
    pub by_calls : first ≡ numbered_from 1 1 (writes first)
    pub stored : Where (disks.tells given) (Stores (disks.seen given) (requests_of first))
    pub restores : Restores limits 1 [] (requests_of first) first
    -- all others are of pass 2, whose session kept its writes
    pub of_second : All (λ e. e.pass ≡ 2) second
    pub session : ServedBy (Rose (disks.faults given) (disks.faults now)) streams limits journal 2 source source' sink sink' end
    pub told : disks.tells now ≡ disks.tells given
    pub count : disks.faults given ≤ disks.faults now
    pub images : OfList disks given now (λ strings. KeepsAll disks given now (end ≢ StoreFault) strings (requests_of second))

  -- why no more was restored
  abbrev pub StopsBy : Stop → Type 0
  StopsBy Foreign =
      Where (disks.tells given) ((strings : List (List ℕ)) → Stores (disks.seen given) strings → IsRestorable limits strings → ⊥)
  StopsBy Store = Rose (disks.faults given) (disks.faults now)
  StopsBy Memory = Unit {0}

  -- The first strings of the list were restored by pass 1, and nothing else was entered.
  pub record HasLeftOff (why : Stop) : Type 0 where
    pub legal : IsLegal limits journal
    pub by_calls : journal ≡ numbered_from 1 1 (writes journal)
    pub begins : Where (disks.tells given) ((strings : List (List ℕ)) → Stores (disks.seen given) strings → IsPrefix (requests_of journal) strings)
    pub cause : StopsBy why
    pub told : disks.tells now ≡ disks.tells given
    pub count : disks.faults given ≤ disks.faults now
    pub images : OfList disks given now (λ strings. LeavesPrefixes disks given now strings [])
