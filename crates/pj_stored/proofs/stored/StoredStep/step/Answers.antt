use Rattle.std.proofs.Common.{◌≡◌, ◌∙◌, true, false, sym, subst}
use Rattle.std.specs.Prelude.{MatchOption}
use Rattle.pj_disk.specs.Causes.{Rose}
use Rattle.pj_machine.specs.Answered.{Answered}
use Rattle.pj_machine.specs.Told.{is_entered}
use Rattle.pj_wire.specs.Requests.{spelling}
use Rattle.pj_stored.specs.Recorded.{IsReady, Recorded}
use Rattle.pj_stored.specs.Writing.{may_enter}
use Rattle.pj_stored.proofs.Recording.{recorded_done, ready_done, recorded_failed}
use Rattle.pj_stored.proofs.stored.StoredStep.step.Goals as goal
use Rattle.pj_stored.proofs.stored.StoredStep.step.Goals.{in-Ok-append, in-Err-append+in-At+in-Body-1, in-Err-append+in-At+in-Done-1, in-Err-append+in-NoMemory-1}

pub returns-after-append-clause-step : goal.returns-after-append-clause-step
returns-after-append-clause-step g c =
    let disk = g.K.Disk in
    let old = c.self.inside.log in
    let new = c.append.new.self in
    let x = c.args.command.now in
    let r = c.answer-numbered.result in
    let made = c.answer-numbered.ensures in
    let answered : Answered (g.P.Replier.limits c.args.replier.now) (g.P.Replier.view c.args.pass.now) (g.P.Replier.view c.answer-numbered.new.pass) x r =
    record { number = made.number; calls = made.calls; journal = made.journal; own = made.own; place = made.place; result = made.result } in
    let entered : is_entered r ≡ true = sym c.is_entered.ensures ∙ c.if-not-is_entered.false in
    let spelled : c.in-Some.frame ≡ spelling x = subst (λ found. MatchOption found (may_enter x ≡ false)
    (λ frame. frame ≡ spelling x)) c.in-Some.is c.in-Ok.ensures in
    let ready : IsReady disk.tells disk.seen disk.may_leave old = subst (λ l. IsReady disk.tells disk.seen disk.may_leave l)
    (sym c.self.view_is) c.requires.ready in
    let whole = λ (recorded : Recorded disk.tells disk.seen disk.may_leave disk.moment disk.left_since disk.faults old x r new).
    subst (λ l. Recorded disk.tells disk.seen disk.may_leave disk.moment disk.left_since disk.faults l x r new) c.self.view_is recorded in
    let failed = λ (is : new.failed ≡ true) (rose : Rose (disk.faults old.disk) (disk.faults new.disk)).
    whole (recorded_failed disk.tells disk.seen disk.may_leave disk.moment disk.left_since
    disk.faults old new x r c.in-Some.frame spelled entered ready c.append.ensures.told
    c.append.ensures.cause.never_falls is rose c.append.ensures.moments) in
    elim c.match-append.branch [
      | in-Ok-append w ↦
          let done = w.in-Ok-append.ensures in
          rw w.result-is (
            answered,
            whole (recorded_done disk.tells disk.seen disk.may_leave disk.moment disk.left_since
                disk.faults old new x r c.in-Some.frame spelled entered ready done.told
                done.cause.never_falls done.after.2 done.moments done.durable done.acknowledged),
            ready_done disk.tells disk.seen disk.may_leave disk.moment disk.left_since disk.faults old new x r c.in-Some.frame spelled entered ready done.told
                done.after.1 done.after.2 done.durable done.acknowledged,
          )
      | in-Err-append+in-At+in-Body-1 w ↦ let fault = w.in-Err-append.ensures in rw w.result-is (r, answered, failed fault.after.2 fault.cause.failed, c.has_small_numbers.ensures)
      | in-Err-append+in-At+in-Done-1 w ↦ let fault = w.in-Err-append.ensures in rw w.result-is (r, answered, failed fault.after.2 fault.cause.failed, c.has_small_numbers.ensures)
      | in-Err-append+in-NoMemory-1 w ↦ let fault = w.in-Err-append.ensures in rw w.result-is (r, answered, failed fault.after.2 fault.cause.failed, c.has_small_numbers.ensures)
    ]
