-- What the log and the restoring say of the disk that was given.
use Rattle.std.proofs.Common.{◌≡◌, subst, Err}
use Rattle.pj_journal.specs.Log.{LogOver}
use Rattle.pj_journal.specs.Opened.{OnForeign, disk_after}
use Rattle.pj_journal.specs.Stored.{IsForeign}
use Rattle.pj_stored.specs.Opened.{Restored, StoppedAt, Stopped, Lacked}
use Rattle.pj_stored.proofs.OpeningStores.{left_stopped, left_unread, left_lacking, left_none, stopped_not_restorable, foreign_not_restorable}
use Rattle.pj_stored.proofs.store.open_store.Goals as goal

pub returns-in-Err-Foreign-open-clause-opened : goal.returns-in-Err-Foreign-open-clause-opened
returns-in-Err-Foreign-open-clause-opened g c =
    let disk = g.K.Disk in
    let limits = g.P.Replier.limits c.args.replier.now in
    let a = g.P.Replier.view c.args.restore.now in
    let b = g.P.Replier.view c.open-in-Ok.new.restore in
    let told = disk.tells c.args.disk in
    let file = disk.seen c.in-Ok.log.disk in
    let given = disk.seen c.args.disk in
    let there : StoppedAt limits a b (disk.tells c.in-Ok.log.disk) file c.in-Err-Foreign-open.field-0-0 =
    subst (λ r. Restored limits a b (disk.tells c.in-Ok.log.disk) file (Err r)) c.in-Err-Foreign-open.field-0-is c.in-Err-Foreign-open.ensures.restored in
    let h = subst (λ t. StoppedAt limits a b t file c.in-Err-Foreign-open.field-0-0) c.in-Ok.ensures.told there in (
      left_stopped limits a b told file given c.in-Ok.ensures.seen _ h,
      stopped_not_restorable limits a b told file given c.in-Ok.ensures.seen _ c.requires h,
    )

pub returns-in-Err-Store-open-clause-opened : goal.returns-in-Err-Store-open-clause-opened
returns-in-Err-Store-open-clause-opened g c =
    let disk = g.K.Disk in
    let limits = g.P.Replier.limits c.args.replier.now in
    let a = g.P.Replier.view c.args.restore.now in
    let b = g.P.Replier.view c.open-in-Ok.new.restore in
    let file = disk.seen c.in-Ok.log.disk in
    let there : Stopped limits a b (disk.tells c.in-Ok.log.disk) file =
    subst (λ r. Restored limits a b (disk.tells c.in-Ok.log.disk) file (Err r)) c.in-Err-Store-open.field-0-is c.in-Err-Store-open.ensures.restored in
    left_unread limits a b (disk.tells c.args.disk) file (disk.seen c.args.disk) c.in-Ok.ensures.seen
    (subst (λ t. Stopped limits a b t file) c.in-Ok.ensures.told there)

pub returns-in-Err-Memory-clause-opened : goal.returns-in-Err-Memory-clause-opened
returns-in-Err-Memory-clause-opened g c =
    let disk = g.K.Disk in
    let limits = g.P.Replier.limits c.args.replier.now in
    let a = g.P.Replier.view c.args.restore.now in
    let b = g.P.Replier.view c.open-in-Ok.new.restore in
    let file = disk.seen c.in-Ok.log.disk in
    let there : Lacked limits a b (disk.tells c.in-Ok.log.disk) file =
    subst (λ r. Restored limits a b (disk.tells c.in-Ok.log.disk) file (Err r)) c.in-Err-Memory.field-0-is c.in-Err-Memory.ensures.restored in
    left_lacking limits a b (disk.tells c.args.disk) file (disk.seen c.args.disk) c.in-Ok.ensures.seen
    (subst (λ t. Lacked limits a b t file) c.in-Ok.ensures.told there)

pub returns-in-Err-Foreign-clause-opened : goal.returns-in-Err-Foreign-clause-opened
returns-in-Err-Foreign-clause-opened g c =
    let disk = g.K.Disk in
    let limits = g.P.Replier.limits c.args.replier.now in
    let a = g.P.Replier.view c.args.restore.now in
    let told = disk.tells c.args.disk in
    let given = disk.seen c.args.disk in (
      left_none limits a told given,
      foreign_not_restorable limits a told given (λ is.
          (subst (λ r. OnForeign {T = LogOver g.row.K.Denot} (Err r) (IsForeign given × (disk.seen (disk_after {K = g.row.K.Denot} (Err r)) ≡ given)))
          c.in-Err-Foreign.field-0-is (c.in-Err-Foreign.ensures.only_foreign is)).0),
    )

pub returns-in-Err-Store-clause-opened : goal.returns-in-Err-Store-clause-opened
returns-in-Err-Store-clause-opened g c =
    left_none (g.P.Replier.limits c.args.replier.now) (g.P.Replier.view c.args.restore.now) (g.K.Disk.tells c.args.disk) (g.K.Disk.seen c.args.disk)
