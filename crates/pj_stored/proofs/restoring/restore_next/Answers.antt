use Rattle.std.proofs.Common.{subst}
use Rattle.pj_machine.specs.Answered.{Answered}
use Rattle.pj_stored.specs.Answered.{IsCallOf}
use Rattle.pj_stored.proofs.Answering.{answers_next}
use Rattle.pj_stored.proofs.restoring.restore_next.Goals as goal

pub returns : goal.returns
returns g c =
    let call = subst (λ found. IsCallOf c.args.string.now found) c.in-Some.is c.in_ok-command.ensures in
    let made = c.answer.ensures in
    let answered : Answered (g.P.Replier.limits c.args.replier.now) (g.P.Replier.view c.args.pass.now)
    (g.P.Replier.view c.answer.new.pass) c.in-Some.command c.answer.result =
    record { number = made.number; calls = made.calls; journal = made.journal; own = made.own; place = made.place; result = made.result } in
    answers_next (g.P.Replier.limits c.args.replier.now) (g.P.Replier.view c.args.pass.now) (g.P.Replier.view c.answer.new.pass) c.args.string.now
    c.in-Some.command c.answer.result c.is_entered.result call.0 call.1 answered c.in_default-answer.not-NoMemory c.is_entered.ensures
