use Rattle.std.proofs.Common.{◌≡◌, ◌∙◌, ◌+◌, refl, sym, ap, subst, Err}
use Rattle.pj_machine.specs.Legal.{IsLegal}
use Rattle.pj_repo.specs.Views.{pass_view, machine_journal}
use Rattle.pj_stored.specs.Opened.{HasRestored}
use Rattle.pj_stored.specs.Store.{StoreOpened}
use Rattle.pj_keep.specs.Disks.{Disks}
use Rattle.pj_keep.specs.Life.{HasLeftOff}
use Rattle.pj_keep.proofs.Lives.{has_kept}
use Rattle.pj_kept.specs.Life.{store_left}
use Rattle.pj_kept.proofs.Lives.{stopped}
use Rattle.pj_kept.proofs.life.keep_in.Goals as goal

pub returns-in-Err : goal.returns-in-Err
returns-in-Err g c =
    let disks : Disks g.row.K.Denot = record {
      tells = g.K.Disk.tells;
      seen = g.K.Disk.seen;
      may_leave = g.K.Disk.may_leave;
      moment = g.K.Disk.moment;
      left_since = g.K.Disk.left_since;
      faults = g.K.Disk.faults;
    } in
    let limits = c.args.limits in
    let given = c.args.disk in
    let journal = c.journal_of_one.result in
    let why = c.in-Err.refusal in
    let a = pass_view c.pass-first.result in
    let b = pass_view c.open_store.new.restore in
    let limits_are : c.pass-first.new.self.limits ≡ limits = ap (λ r. r.limits) c.pass-first.ensures.made ∙ ap (λ r. r.limits) c.requires.repo in
    let number : a.number ≡ 1 = ap (λ t. t.number) c.pass-first.ensures.new ∙ ap (λ r. r.made) c.requires.repo in
    let left = stopped disks limits given journal why a b c.pass-first.ensures.fresh number c.in-Err.ensures.number c.journal_of_one.ensures.journal
    (subst (λ l. IsLegal l journal) limits_are c.journal_of_one.ensures.legal)
    (subst (λ l. StoreOpened {K = g.row.K.Denot} l a b (disks.tells given) (disks.seen given) (Err why)) limits_are c.in-Err.ensures.opened)
    c.in-Err.ensures.cause c.in-Err.ensures.told c.in-Err.ensures.count c.in-Err.ensures.moments in (
      subst (λ s. HasLeftOff disks limits given s journal c.stop_of-stop.result.0) (sym c.stop_of-stop.ensures.store)
          (subst (λ w. HasLeftOff disks limits given (store_left why) journal w) (sym c.stop_of-stop.ensures.stop) left),
      refl,
      refl,
    )

pub returns : goal.returns
returns g c =
    let disks : Disks g.row.K.Denot = record {
      tells = g.K.Disk.tells;
      seen = g.K.Disk.seen;
      may_leave = g.K.Disk.may_leave;
      moment = g.K.Disk.moment;
      left_since = g.K.Disk.left_since;
      faults = g.K.Disk.faults;
    } in
    let limits = c.args.limits in
    let given = c.args.disk in
    let now = c.keep_session-end.result.1 in
    let journal = c.journal_of_two.result in
    let opened = c.in-Ok-open_store.ensures in
    let a = pass_view c.pass-first.result in
    let b = pass_view c.open_store.new.restore in
    let d = pass_view c.pass-second.new.from in
    let e = pass_view c.pass-second.result in
    let f = pass_view c.keep_session-end.new.pass in
    let limits_are : c.pass-first.new.self.limits ≡ limits = ap (λ r. r.limits) c.pass-first.ensures.made ∙ ap (λ r. r.limits) c.requires.repo in
    let number : a.number ≡ 1 = ap (λ t. t.number) c.pass-first.ensures.new ∙ ap (λ r. r.made) c.requires.repo in
    let number_b : b.number ≡ 1 = opened.number ∙ number in
    let number_e : e.number ≡ 2 =
    ap (λ t. t.number) c.pass-second.ensures.new ∙ ap (λ r. r.made) c.pass-first.ensures.made ∙ ap (λ r. r.made + 1) c.requires.repo in
    let all = c.journal_of_two.ensures.journal in
    has_kept disks limits given now journal (record { sources = g.S.Source.meaning; sinks = g.D.Sink.meaning })
    c.args.source c.keep_session-end.new.source c.args.sink c.keep_session-end.new.sink c.keep_session-end.result.0
    c.in-Ok-open_store.stored.disk a b d e f c.pass-first.ensures.fresh number_b
    (subst (λ l. HasRestored l a b (disks.tells given) (disks.seen given)) limits_are opened.opened)
    c.pass-second.ensures.from_own c.pass-second.ensures.from_sees
    (ap (λ t. t.number) c.pass-second.ensures.from ∙ number_b)
    (ap (λ t. machine_journal t.seen) c.pass-second.ensures.new) number_e c.pass-second.ensures.fresh.own
    c.keep_session-end.ensures.number c.keep_session-end.ensures.journal c.keep_session-end.ensures.kept
    all.others all.begins all.own_is all.begins_second all.own_second
    (subst (λ l. IsLegal l journal) (ap (λ r. r.limits) c.pass-second.ensures.made ∙ limits_are) c.journal_of_two.ensures.legal)
    opened.moments opened.told opened.count opened.list opened.ready.durable
