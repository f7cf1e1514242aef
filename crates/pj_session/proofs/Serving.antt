-- What a session did, in a longer journal.
use Rattle.std.proofs.Common.{◌≡◌, ℕ, List}
use mathlib.Core.List.{IsPrefix}
use Rattle.pj_io.specs.Meanings.{Streams}
use Rattle.pj_machine.specs.declared.journal.Entry.{Entry}
use Rattle.pj_machine.specs.declared.limits.Limits.{Limits}
use Rattle.pj_machine.specs.Call.{entries_of}
use Rattle.pj_session.specs.declared.end.End.{End}
use Rattle.pj_session.specs.Served.{ServedBy}
use Rattle.pj_session.proofs.Spoken.{spoke_later}
use Rattle.pj_session.proofs.Talks.{session_under}

-- a session in a journal that goes on, in which its pass has no more entries
pub served_later : {S D : Type 0} (Fault : Type 0) (streams : Streams S D) (limits : Limits) (journal longer : List Entry) (pass : ℕ) (source source' : S)
    (sink sink' : D) (end : End) → IsPrefix journal longer → entries_of pass longer ≡ entries_of pass journal →
    ServedBy Fault streams limits journal pass source source' sink sink' end → ServedBy Fault streams limits longer pass source source' sink sink' end
served_later Fault streams limits journal longer pass source source' sink sink' end begins same s = record {
  session = session_under limits.session _ _ _ _ _ _ end (λ taken t. t) (λ e. e)
      (λ xs rs did. (spoke_later limits journal longer pass xs rs begins same did.0, did.1)) s.session;
  store_cause = s.store_cause;
  read_cause = s.read_cause;
  write_cause = s.write_cause;
  source_shut = s.source_shut;
  sink_shut = s.sink_shut;
  source_told = s.source_told;
  sink_told = s.sink_told;
  label = s.label;
  source_count = s.source_count;
  sink_count = s.sink_count;
}
