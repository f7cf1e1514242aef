-- What a session did whose writes are kept.
use Rattle.std.specs.Prelude.{◌≡◌, ◌≢◌, ℕ, ◌≤◌, List}
use Rattle.pj_io.specs.Causes.{Rose}
use Rattle.pj_io.specs.Meanings.{Streams}
use Rattle.pj_machine.specs.declared.journal.Entry.{Entry}
use Rattle.pj_machine.specs.declared.limits.Limits.{Limits}
use Rattle.pj_machine.specs.Call.{entries_of}
use Rattle.pj_session.specs.declared.end.End.{End}
use Rattle.pj_session.specs.declared.end.End.TheVariants.{StoreFault}
use Rattle.pj_session.specs.Served.{ServedBy}
use Rattle.pj_stored.specs.Restored.{requests_of}
use Rattle.pj_keep.specs.Disks.{Disks}
use Rattle.pj_keep.specs.Images.{OfList, KeepsAll}

-- A session in this journal, over a store. What was accepted is what the pass entered.
pub record KeptSession {K S D : Type 0} (disks : Disks K) (streams : Streams S D) (limits : Limits) (journal : List Entry) (pass : ℕ)
    (given now : K) (source source' : S) (sink sink' : D) (end : End) : Type 0 where
  pub served : ServedBy (Rose (disks.faults given) (disks.faults now)) streams limits journal pass source source' sink sink' end
  pub told : disks.tells now ≡ disks.tells given
  pub count : disks.faults given ≤ disks.faults now
  pub images : OfList disks given now
      (λ strings. KeepsAll disks given now (end ≢ StoreFault) strings (requests_of (entries_of pass journal)))
