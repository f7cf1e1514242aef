use Rattle.std.proofs.Common.{◌≡◌, ◌≢◌, map, sym, ap, subst}
use Rattle.pj_session.specs.declared.end.End.TheVariants.{StoreFault}
use Rattle.pj_session.specs.Spoke.{Spoke}
use Rattle.pj_session.proofs.Accepting.{enters_accepted}
use Rattle.pj_session.proofs.Talks.{session_under}
use Rattle.pj_stored.specs.Restored.{requests_of}
use Rattle.pj_stored.specs.Kept.{kept_of}
use Rattle.pj_wire.specs.Requests.{spelling}
use Rattle.pj_machine.specs.Call.{entries_of}
use Rattle.pj_keep.specs.Disks.{Disks}
use Rattle.pj_keep.specs.Images.{KeepsAll}
use Rattle.pj_keep.specs.Session.{KeptSession}
use Rattle.pj_keep.proofs.Sessions.{keeps_all}
use Rattle.pj_keep.proofs.session.keep_session.Goals as goal

pub returns-clause-kept : goal.returns-clause-kept
returns-clause-kept g c =
    let e = c.kept_session-end.ensures in
    let end = c.kept_session-end.result in
    let old = c.args.stored in
    let new = c.kept_session-end.new.stored in
    let disks : Disks g.row.K.Denot = record {
      tells = g.K.Disk.tells;
      seen = g.K.Disk.seen;
      may_leave = g.K.Disk.may_leave;
      moment = g.K.Disk.moment;
      left_since = g.K.Disk.left_since;
      faults = g.K.Disk.faults;
    } in
    let limits = c.args.limits in
    let after = g.P.Replier.view c.kept_session-end.new.pass in
    let xs = e.session.requests in
    let rs = e.session.replies in
    let did = e.session.did in
    let entered : kept_of xs rs ≡ requests_of (entries_of after.number after.journal) =
    ap (λ l. map spelling l) (sym (enters_accepted (g.P.Replier.limits c.args.replier.now) after.journal after.number xs rs did.0)) in
    subst (λ store. KeptSession disks (record { sources = g.S.Source.meaning; sinks = g.D.Sink.meaning }) limits after.journal after.number old.disk store
    c.args.source.now c.kept_session-end.new.source c.args.sink.now c.kept_session-end.new.sink end) (sym c.close.ensures)
    (record {
      served = record {
        session = session_under limits.session _ _ _ _ _ _ end (λ taken took. took) (λ none. none)
            (λ xs rs did. (subst (λ l. Spoke l after.journal after.number xs rs) c.requires.limits did.0, did.3)) e.session;
        store_cause = e.store_cause;
        read_cause = e.read_cause;
        write_cause = e.write_cause;
        source_shut = e.source_shut;
        sink_shut = e.sink_shut;
        source_told = e.source_told;
        sink_told = e.sink_told;
        label = e.label;
        source_count = e.source_count;
        sink_count = e.sink_count;
      };
      told = e.told;
      count = e.store_count;
      images = λ told strings stored only.
          subst (λ more. KeepsAll disks old.disk new.disk (end ≢ StoreFault) strings more) entered
          (keeps_all disks old new (end ≢ StoreFault) strings (kept_of xs rs) (did.2 told strings stored));
    })
