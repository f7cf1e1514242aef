-- What a session that keeps its writes says of its journal and of its disk.
use Rattle.std.proofs.Common.{ℕ, ◌≤◌, List, ◌++◌, sym, subst, arith}
use Rattle.pj_io.specs.Causes.{Rose}
use Rattle.pj_io.specs.Meanings.{Streams}
use Rattle.pj_journal.specs.Log.{LogOver}
use Rattle.pj_journal.specs.Stored.{Stores}
use Rattle.pj_machine.specs.declared.journal.Entry.{Entry}
use Rattle.pj_machine.specs.declared.limits.Limits.{Limits}
use Rattle.pj_session.specs.declared.end.End.{End}
use Rattle.pj_session.specs.Served.{ServedBy}
use Rattle.pj_stored.specs.Kept.{KeptBehind}
use Rattle.pj_keep.specs.Disks.{Disks}
use Rattle.pj_keep.specs.Images.{KeepsAll}

-- the disk of a log that keeps strings
pub keeps_all : {K : Type 0} (disks : Disks K) (old new : LogOver K) (Sound : Type 0) (strings more : List (List ℕ)) →
    KeptBehind disks.seen disks.may_leave disks.moment disks.left_since old new Sound strings (strings ++ more) →
    KeepsAll disks old.disk new.disk Sound strings more
keeps_all disks old new Sound strings more k = record {
  moments = k.moments;
  acknowledged = λ sound c leaves. subst (λ f. Stores f (strings ++ more)) (sym (k.durable sound c leaves)) (k.stored sound);
  all_but_last = k.all_but_last;
}

-- a count that rose in a part of the time rose
pub rose_within : (before middle now : ℕ) → before ≤ middle → Rose middle now → Rose before now
rose_within before middle now le rose = omega (arith, le, rose)

-- a session whose store failed for another cause
pub served_for : {S D : Type 0} (Fault Cause : Type 0) (streams : Streams S D) (limits : Limits) (journal : List Entry) (pass : ℕ) (source source' : S)
    (sink sink' : D) (end : End) → (Fault → Cause) →
    ServedBy Fault streams limits journal pass source source' sink sink' end → ServedBy Cause streams limits journal pass source source' sink sink' end
served_for Fault Cause streams limits journal pass source source' sink sink' end cause s = record {
  session = s.session;
  store_cause = λ is. cause (s.store_cause is);
  read_cause = s.read_cause;
  write_cause = s.write_cause;
  source_shut = s.source_shut;
  sink_shut = s.sink_shut;
  source_told = s.source_told;
  sink_told = s.sink_told;
  label = s.label;
  source_count = s.source_count;
  sink_count = s.sink_count;
}
