use Rattle.std.proofs.Common.{◌≡◌, ◌∙◌, ℕ, ◌+◌, length, IsTrue, List, Ok, Err, sym, ap, subst, arith}
use Rattle.pj_disk.specs.Told.{Where}
use Rattle.pj_journal.specs.Log.{IsBroken, Found, AfterRead}
use Rattle.pj_journal.specs.Stored.{IsClosedAt}
use Rattle.pj_journal.specs.declared.refusal.LogRefusal.{LogRefusal}
use Rattle.pj_stored.specs.Answered.{IsAnswered}
use Rattle.pj_stored.proofs.Recording.{ready_read}
use Rattle.pj_stored.proofs.Strings.{SoFar, so_far_none, so_far_more, few_so_far, calls_so_far, ends, stops_broken, stops_other, stops, lacks_string, lacks_answer, read_none, read_on, stands_there, stopped_later, lacked_later, whole_later, unread_later}
use Rattle.pj_stored.proofs.stored.Stored.open.Goals as goal

pub loop-string-init : goal.loop-string-init
loop-string-init g c =
    let disk = g.K.Disk in
    let place : c.args.log.place ≡ 8 = ap (λ l. l.place) c.requires.opened in
    record {
      so_far = subst (λ p. SoFar (g.P.Replier.limits c.args.replier.now) (g.P.Replier.view c.args.restore.now) (g.P.Replier.view c.args.restore.now)
          (disk.tells c.args.log.disk) (disk.seen c.args.log.disk) p 1)
          (sym place) (so_far_none (g.P.Replier.limits c.args.replier.now) (g.P.Replier.view c.args.restore.now) (disk.tells c.args.log.disk)
          (disk.seen c.args.log.disk));
      read = read_none disk.tells disk.seen disk.may_leave disk.moment disk.left_since disk.faults g.met.K.Disk.only_now c.args.log.disk;
      sound = ap (λ l. l.failed) c.requires.opened;
      bound = omega arith;
    }

pub restore_next-requires-clause-calls : goal.restore_next-requires-clause-calls
restore_next-requires-clause-calls g c =
    let inv = c.loop-string.invariant in
    omega (arith, calls_so_far _ _ _ _ _ _ _ inv.so_far, few_so_far _ _ _ _ _ _ _ inv.so_far, c.requires.fresh.calls, inv.bound)

pub overflow_add-entry : goal.overflow_add-entry
overflow_add-entry g c =
    let inv = c.loop-string.invariant in
    omega (arith, few_so_far _ _ _ _ _ _ _ inv.so_far, inv.bound)

pub loop-string-preserved : goal.loop-string-preserved
loop-string-preserved g c =
    let disk = g.K.Disk in
    let inv = c.loop-string.invariant in
    let cur = c.loop-string.log in
    let done = c.read.ensures in
    let found = subst (λ f. Where (disk.tells cur.disk) (Found (disk.seen cur.disk) cur.place f)) c.in-Ok-Some.field-0-is c.in-Ok-Some.ensures.found in
    let after = subst (λ f. AfterRead {E = LogRefusal} cur c.read.new.self (Ok f)) c.in-Ok-Some.field-0-is c.in-Ok-Some.ensures.after in
    let accepts = subst (λ b. IsAnswered (g.P.Replier.limits c.args.replier.now) (g.P.Replier.view c.loop-string.restore)
    (g.P.Replier.view c.restore_next.new.pass) c.deref.result.now b) c.in-Ok-true.field-0-test c.in-Ok-true.ensures in
    let same = c.deref.ensures.value in
    record {
      so_far = so_far_more (g.P.Replier.limits c.args.replier.now) (g.P.Replier.view c.args.restore.now) (g.P.Replier.view c.loop-string.restore)
          (disk.tells c.args.log.disk) (disk.seen c.args.log.disk) cur.place c.loop-string.entry inv.so_far
          (g.P.Replier.view c.restore_next.new.pass) c.deref.result.now c.read.new.self.place
          (stands_there (disk.tells c.args.log.disk) (disk.tells cur.disk) (disk.seen c.args.log.disk)
          (disk.seen cur.disk) cur.place c.deref.result.now c.in-Ok-Some.string.items inv.read.told inv.read.seen_is same found)
          accepts (after.1.0 ∙ ap (λ (t : List ℕ). cur.place + (9 + length t)) (sym same));
      read = read_on disk.tells disk.seen disk.may_leave disk.moment disk.left_since disk.faults c.args.log.disk cur.disk c.read.new.self.disk inv.read
          (record { told = done.told; count = done.count; seen_is = done.seen; images = done.images; moments = done.moments });
      sound = after.0 ∙ inv.sound;
      bound = done.place;
    }

pub returns-in-Ok-false-clause-restored : goal.returns-in-Ok-false-clause-restored
returns-in-Ok-false-clause-restored g c =
    let disk = g.K.Disk in
    let inv = c.loop-string.invariant in
    let cur = c.loop-string.log in
    let done = c.read.ensures in
    let found = subst (λ f. Where (disk.tells cur.disk) (Found (disk.seen cur.disk) cur.place f)) c.in-Ok-Some.field-0-is c.in-Ok-Some.ensures.found in
    let declines = subst (λ b. IsAnswered (g.P.Replier.limits c.args.replier.now) (g.P.Replier.view c.loop-string.restore)
    (g.P.Replier.view c.restore_next.new.pass) c.deref.result.now b) c.in-Ok-false.field-0-test c.in-Ok-false.ensures in
    stops_other (g.P.Replier.limits c.args.replier.now) (g.P.Replier.view c.args.restore.now) (g.P.Replier.view c.loop-string.restore)
    (disk.tells c.args.log.disk) (disk.seen c.args.log.disk) cur.place c.loop-string.entry inv.so_far
    (g.P.Replier.view c.restore_next.new.pass) c.deref.result.now
    (stands_there (disk.tells c.args.log.disk) (disk.tells cur.disk) (disk.seen c.args.log.disk)
    (disk.seen cur.disk) cur.place c.deref.result.now c.in-Ok-Some.string.items inv.read.told inv.read.seen_is c.deref.ensures.value found) declines

pub returns-in-Ok-false-clause-number : goal.returns-in-Ok-false-clause-number
returns-in-Ok-false-clause-number g c = (stopped_later (g.P.Replier.limits c.args.replier.now) (g.P.Replier.view c.args.restore.now)
    (g.P.Replier.view c.restore_next.new.pass) (g.K.Disk.tells c.args.log.disk) (g.K.Disk.seen c.args.log.disk) c.loop-string.entry
    (returns-in-Ok-false-clause-restored g c)).number

pub returns-in-Ok-false-clause-journal : goal.returns-in-Ok-false-clause-journal
returns-in-Ok-false-clause-journal g c = (stopped_later (g.P.Replier.limits c.args.replier.now) (g.P.Replier.view c.args.restore.now)
    (g.P.Replier.view c.restore_next.new.pass) (g.K.Disk.tells c.args.log.disk) (g.K.Disk.seen c.args.log.disk) c.loop-string.entry
    (returns-in-Ok-false-clause-restored g c)).journal

pub returns-in-Err-clause-restored : goal.returns-in-Err-clause-restored
returns-in-Err-clause-restored g c =
    let disk = g.K.Disk in
    let inv = c.loop-string.invariant in
    let cur = c.loop-string.log in
    let done = c.read.ensures in
    let found = subst (λ f. Where (disk.tells cur.disk) (Found (disk.seen cur.disk) cur.place f)) c.in-Ok-Some.field-0-is c.in-Ok-Some.ensures.found in
    lacks_answer (g.P.Replier.limits c.args.replier.now) (g.P.Replier.view c.args.restore.now) (g.P.Replier.view c.loop-string.restore)
    (disk.tells c.args.log.disk) (disk.seen c.args.log.disk) cur.place c.loop-string.entry inv.so_far
    (g.P.Replier.view c.restore_next.new.pass) c.deref.result.now
    (stands_there (disk.tells c.args.log.disk) (disk.tells cur.disk) (disk.seen c.args.log.disk)
    (disk.seen cur.disk) cur.place c.deref.result.now c.in-Ok-Some.string.items inv.read.told inv.read.seen_is c.deref.ensures.value found) c.in-Err.ensures

pub returns-in-Err-clause-number : goal.returns-in-Err-clause-number
returns-in-Err-clause-number g c = (lacked_later (g.P.Replier.limits c.args.replier.now) (g.P.Replier.view c.args.restore.now)
    (g.P.Replier.view c.restore_next.new.pass) (g.K.Disk.tells c.args.log.disk) (g.K.Disk.seen c.args.log.disk) (returns-in-Err-clause-restored g c)).number

pub returns-in-Err-clause-journal : goal.returns-in-Err-clause-journal
returns-in-Err-clause-journal g c = (lacked_later (g.P.Replier.limits c.args.replier.now) (g.P.Replier.view c.args.restore.now)
    (g.P.Replier.view c.restore_next.new.pass) (g.K.Disk.tells c.args.log.disk) (g.K.Disk.seen c.args.log.disk) (returns-in-Err-clause-restored g c)).journal

pub returns-in-Ok-None-clause-restored : goal.returns-in-Ok-None-clause-restored
returns-in-Ok-None-clause-restored g c =
    let disk = g.K.Disk in
    let inv = c.loop-string.invariant in
    let cur = c.loop-string.log in
    let done = c.read.ensures in
    let found = subst (λ f. Where (disk.tells cur.disk) (Found (disk.seen cur.disk) cur.place f)) c.in-Ok-None.field-0-is c.in-Ok-None.ensures.found in
    ends (g.P.Replier.limits c.args.replier.now) (g.P.Replier.view c.args.restore.now) (g.P.Replier.view c.loop-string.restore) (disk.tells c.args.log.disk)
    (disk.seen c.args.log.disk) cur.place c.loop-string.entry inv.so_far c.requires.header
    (λ told. subst (λ f. IsClosedAt f cur.place) (inv.read.seen_is told) (found (subst IsTrue (sym inv.read.told) told)))

pub returns-in-Ok-None-clause-read : goal.returns-in-Ok-None-clause-read
returns-in-Ok-None-clause-read g c =
    let disk = g.K.Disk in
    let inv = c.loop-string.invariant in
    let cur = c.loop-string.log in
    let done = c.read.ensures in
    read_on disk.tells disk.seen disk.may_leave disk.moment disk.left_since disk.faults c.args.log.disk cur.disk c.read.new.self.disk inv.read
    (record { told = done.told; count = done.count; seen_is = done.seen; images = done.images; moments = done.moments })

pub returns-in-Ok-None-clause-number : goal.returns-in-Ok-None-clause-number
returns-in-Ok-None-clause-number g c = (whole_later (g.P.Replier.limits c.args.replier.now) (g.P.Replier.view c.args.restore.now)
    (g.P.Replier.view c.loop-string.restore) (g.K.Disk.tells c.args.log.disk) (g.K.Disk.seen c.args.log.disk) (returns-in-Ok-None-clause-restored g c)).number

pub returns-in-Ok-None-clause-journal : goal.returns-in-Ok-None-clause-journal
returns-in-Ok-None-clause-journal g c = (whole_later (g.P.Replier.limits c.args.replier.now) (g.P.Replier.view c.args.restore.now)
    (g.P.Replier.view c.loop-string.restore) (g.K.Disk.tells c.args.log.disk) (g.K.Disk.seen c.args.log.disk)
    (returns-in-Ok-None-clause-restored g c)).journal

pub returns-in-Ok-None-clause-ready : goal.returns-in-Ok-None-clause-ready
returns-in-Ok-None-clause-ready g c =
    let disk = g.K.Disk in
    let inv = c.loop-string.invariant in
    let cur = c.loop-string.log in
    let after = subst (λ f. AfterRead {E = LogRefusal} cur c.read.new.self (Ok f)) c.in-Ok-None.field-0-is c.in-Ok-None.ensures.after in
    let restored = returns-in-Ok-None-clause-restored g c in
    ready_read disk.tells disk.seen disk.may_leave disk.moment disk.left_since disk.faults c.args.log.disk c.read.new.self
    (returns-in-Ok-None-clause-read g c)
    after.1.1 (after.0 ∙ inv.sound) c.requires.durable (λ told. (restored.strings, restored.stored told))

pub returns-in-Err-Broken-clause-restored : goal.returns-in-Err-Broken-clause-restored
returns-in-Err-Broken-clause-restored g c =
    let disk = g.K.Disk in
    let inv = c.loop-string.invariant in
    let cur = c.loop-string.log in
    let done = c.read.ensures in
    stops_broken (g.P.Replier.limits c.args.replier.now) (g.P.Replier.view c.args.restore.now) (g.P.Replier.view c.loop-string.restore)
    (disk.tells c.args.log.disk) (disk.seen c.args.log.disk) cur.place c.loop-string.entry inv.so_far
    (λ told. subst (λ f. IsBroken f cur.place) (inv.read.seen_is told)
    (c.in-Err-Broken.ensures.only_broken (subst IsTrue (sym inv.read.told) told) (ap Err c.in-Err-Broken.field-0-is)))

pub returns-in-Err-Broken-clause-number : goal.returns-in-Err-Broken-clause-number
returns-in-Err-Broken-clause-number g c = (stopped_later (g.P.Replier.limits c.args.replier.now) (g.P.Replier.view c.args.restore.now)
    (g.P.Replier.view c.loop-string.restore) (g.K.Disk.tells c.args.log.disk) (g.K.Disk.seen c.args.log.disk) c.loop-string.entry
    (returns-in-Err-Broken-clause-restored g c)).number

pub returns-in-Err-Broken-clause-journal : goal.returns-in-Err-Broken-clause-journal
returns-in-Err-Broken-clause-journal g c = (stopped_later (g.P.Replier.limits c.args.replier.now) (g.P.Replier.view c.args.restore.now)
    (g.P.Replier.view c.loop-string.restore) (g.K.Disk.tells c.args.log.disk) (g.K.Disk.seen c.args.log.disk) c.loop-string.entry
    (returns-in-Err-Broken-clause-restored g c)).journal

pub returns-in-Err-Store-clause-restored : goal.returns-in-Err-Store-clause-restored
returns-in-Err-Store-clause-restored g c =
    let disk = g.K.Disk in
    let inv = c.loop-string.invariant in
    let cur = c.loop-string.log in
    let done = c.read.ensures in
    stops (g.P.Replier.limits c.args.replier.now) (g.P.Replier.view c.args.restore.now) (g.P.Replier.view c.loop-string.restore) (disk.tells c.args.log.disk)
    (disk.seen c.args.log.disk) cur.place c.loop-string.entry inv.so_far

pub returns-in-Err-Store-clause-number : goal.returns-in-Err-Store-clause-number
returns-in-Err-Store-clause-number g c = (unread_later (g.P.Replier.limits c.args.replier.now) (g.P.Replier.view c.args.restore.now)
    (g.P.Replier.view c.loop-string.restore) (g.K.Disk.tells c.args.log.disk) (g.K.Disk.seen c.args.log.disk)
    (returns-in-Err-Store-clause-restored g c)).number

pub returns-in-Err-Store-clause-journal : goal.returns-in-Err-Store-clause-journal
returns-in-Err-Store-clause-journal g c = (unread_later (g.P.Replier.limits c.args.replier.now) (g.P.Replier.view c.args.restore.now)
    (g.P.Replier.view c.loop-string.restore) (g.K.Disk.tells c.args.log.disk) (g.K.Disk.seen c.args.log.disk)
    (returns-in-Err-Store-clause-restored g c)).journal

pub returns-in-Err-Memory-clause-restored : goal.returns-in-Err-Memory-clause-restored
returns-in-Err-Memory-clause-restored g c =
    let disk = g.K.Disk in
    let inv = c.loop-string.invariant in
    let cur = c.loop-string.log in
    let done = c.read.ensures in
    lacks_string (g.P.Replier.limits c.args.replier.now) (g.P.Replier.view c.args.restore.now) (g.P.Replier.view c.loop-string.restore)
    (disk.tells c.args.log.disk) (disk.seen c.args.log.disk) cur.place c.loop-string.entry inv.so_far

pub returns-in-Err-Memory-clause-number : goal.returns-in-Err-Memory-clause-number
returns-in-Err-Memory-clause-number g c = (lacked_later (g.P.Replier.limits c.args.replier.now) (g.P.Replier.view c.args.restore.now)
    (g.P.Replier.view c.loop-string.restore) (g.K.Disk.tells c.args.log.disk) (g.K.Disk.seen c.args.log.disk)
    (returns-in-Err-Memory-clause-restored g c)).number

pub returns-in-Err-Memory-clause-journal : goal.returns-in-Err-Memory-clause-journal
returns-in-Err-Memory-clause-journal g c = (lacked_later (g.P.Replier.limits c.args.replier.now) (g.P.Replier.view c.args.restore.now)
    (g.P.Replier.view c.loop-string.restore) (g.K.Disk.tells c.args.log.disk) (g.K.Disk.seen c.args.log.disk)
    (returns-in-Err-Memory-clause-restored g c)).journal
