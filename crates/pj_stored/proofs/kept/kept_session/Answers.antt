use Rattle.std.proofs.Common.{◌≡◌, ◌≢◌, ◌++◌, false}
use Rattle.pj_session.specs.declared.end.End.TheVariants.{StoreFault}
use Rattle.pj_session.proofs.Talks.{session_under}
use Rattle.pj_stored.specs.Kept.{kept_of}
use Rattle.pj_stored.proofs.Chained.{kept, sounder, told_all}
use Rattle.pj_stored.proofs.kept.kept_session.Goals as goal

pub returns-clause-session : goal.returns-clause-session
returns-clause-session g c =
    let disk = g.K.Disk in
    let old = c.args.stored.now in
    let new = c.session_by.new.step in
    session_under _ _ _ _ _ _ _ _ (λ taken took. took) (λ none. none)
    (λ xs rs did. (
      did.0,
      did.1,
      λ told strings stored.
          sounder disk.tells disk.seen disk.may_leave disk.moment disk.left_since disk.faults old new (new.failed ≡ false)
          (c.session_by.result ≢ StoreFault) strings (strings ++ kept_of xs rs)
          (λ h. (c.session_by.ensures.ready h).sound)
          (kept disk.tells disk.seen disk.may_leave disk.moment disk.left_since disk.faults
          g.met.K.Disk.counts_now g.met.K.Disk.only_now old new xs rs did.1 told
          (c.requires.ready.durable told) strings stored),
      did.2,
    ))
    c.session_by.ensures.session

pub returns-clause-told : goal.returns-clause-told
returns-clause-told g c =
    let disk = g.K.Disk in
    let s = c.session_by.ensures.session in
    told_all disk.tells disk.seen disk.may_leave disk.moment disk.left_since disk.faults c.args.stored.now c.session_by.new.step s.requests s.replies s.did.1
