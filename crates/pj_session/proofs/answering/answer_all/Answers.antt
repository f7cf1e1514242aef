use Rattle.std.proofs.Common.{Err, refl, ◌∙◌, subst, arith}
use Rattle.pj_wire.specs.Takes.{Takes}
use Rattle.pj_wire.specs.declared.decoder.Next.TheVariants.{Message}
use Rattle.pj_session.specs.declared.step.StepRefusal.TheVariants.{Store}
use Rattle.pj_session.specs.Steps.{Stepped}
use Rattle.pj_session.proofs.Bytes.{shorter, is_call}
use Rattle.pj_session.proofs.Turns.{none_yet, one_more, ends_fault, ends_store}
use Rattle.pj_session.proofs.answering.answer_all.Goals as goal

pub loop-command-init : goal.loop-command-init
loop-command-init g c = record {
  underway = none_yet _ _ _ _ _ _ _ refl;
  ready = c.requires.ready;
  told = refl;
  label = λ h. refl;
  sink_count = omega arith;
  step_count = omega arith;
  room = c.requires.calls;
}

pub returns-in-Err-Store-clause-turn : goal.returns-in-Err-Store-clause-turn
returns-in-Err-Store-clause-turn g c =
    let taken : Takes c.loop-command.decoder c.next.new.self (Message c.in-Ok-Message.command) = subst (λ n. Takes c.loop-command.decoder c.next.new.self n) c.in-Ok-Message.field-0-is c.in-Ok-Message.ensures.taken in
    let stepped : Stepped (λ s. g.T.Step.ready s) (λ s x r t. g.T.Step.does s x r t) (g.P.Replier.limits c.args.replier.now) c.loop-command.step c.step.new.self (g.P.Replier.view c.loop-command.pass) (g.P.Replier.view c.step.new.pass) c.in-Ok-Message.command (Err Store) =
    subst (λ e. Stepped (λ s. g.T.Step.ready s) (λ s x r t. g.T.Step.does s x r t) (g.P.Replier.limits c.args.replier.now) c.loop-command.step c.step.new.self (g.P.Replier.view c.loop-command.pass) (g.P.Replier.view c.step.new.pass) c.in-Ok-Message.command (Err e)) c.in-Err-Store.field-0-is c.in-Err-Store.ensures.step in
    ends_store _ _ _ _ _ _ _ _ _ _ _ _ _ _ _ stepped.0 c.loop-command.invariant.underway (is_call _ _ taken.0 c.is_quit.ensures.1 c.if-is_quit.false) taken.1 stepped.1 stepped.2 stepped.3

pub returns-in-Err-write_reply-clause-turn : goal.returns-in-Err-write_reply-clause-turn
returns-in-Err-write_reply-clause-turn g c =
    let taken : Takes c.loop-command.decoder c.next.new.self (Message c.in-Ok-Message.command) = subst (λ n. Takes c.loop-command.decoder c.next.new.self n) c.in-Ok-Message.field-0-is c.in-Ok-Message.ensures.taken in
    let same = c.loop-command.invariant.told in
    let stepped = c.in-Ok.ensures.step in
    ends_fault _ _ _ _ _ _ _ _ _ _ _ _ _ _ _ _ c.loop-command.invariant.underway (is_call _ _ taken.0 c.is_quit.ensures.1 c.if-is_quit.false) taken.1 stepped.0 stepped.1 c.in-Err-write_reply.ensures.small _
    (λ h. c.in-Err-write_reply.ensures.bytes (same ∙ h))

pub loop-command-preserved-in-Ok-write_reply : goal.loop-command-preserved-in-Ok-write_reply
loop-command-preserved-in-Ok-write_reply g c =
    let taken : Takes c.loop-command.decoder c.next.new.self (Message c.in-Ok-Message.command) = subst (λ n. Takes c.loop-command.decoder c.next.new.self n) c.in-Ok-Message.field-0-is c.in-Ok-Message.ensures.taken in
    let same = c.loop-command.invariant.told in
    let less = shorter _ _ _ taken.1 in
    let stepped = c.in-Ok.ensures.step in
    let calls = stepped.0.calls in
    let room = c.loop-command.invariant.room in
    let given = c.in-Ok-write_reply.ensures in
    record {
      underway = one_more _ _ _ _ _ _ _ _ _ _ _ _ _ _ _ _ c.loop-command.invariant.underway (is_call _ _ taken.0 c.is_quit.ensures.1 c.if-is_quit.false) taken.1 stepped.0 stepped.1 given.small _
          (λ h. given.bytes (same ∙ h));
      ready = stepped.2;
      told = given.told ∙ same;
      label = λ h. given.label (same ∙ h) ∙ c.loop-command.invariant.label h;
      sink_count = omega (arith, given.cause.never_falls, c.loop-command.invariant.sink_count);
      step_count = omega (arith, c.in-Ok.ensures.cause.never_falls, c.loop-command.invariant.step_count);
      room = omega (arith, calls, less, room);
    }

pub loop-command-preserved : goal.loop-command-preserved
loop-command-preserved g c =
    let taken : Takes c.loop-command.decoder c.next.new.self (Message c.in-Ok-Message.command) = subst (λ n. Takes c.loop-command.decoder c.next.new.self n) c.in-Ok-Message.field-0-is c.in-Ok-Message.ensures.taken in
    let same = c.loop-command.invariant.told in
    let less = shorter _ _ _ taken.1 in
    let stepped = c.in-Ok.ensures.step in
    let calls = stepped.0.calls in
    let room = c.loop-command.invariant.room in
    let given = c.in-Ok-write_reply.ensures in
    record {
      underway = one_more _ _ _ _ _ _ _ _ _ _ _ _ _ _ _ _ c.loop-command.invariant.underway (is_call _ _ taken.0 c.is_quit.ensures.1 c.if-is_quit.false) taken.1 stepped.0 stepped.1 given.small _
          (λ h. given.bytes (same ∙ h));
      ready = stepped.2;
      told = given.told ∙ same;
      label = λ h. given.label (same ∙ h) ∙ c.loop-command.invariant.label h;
      sink_count = omega (arith, given.cause.never_falls, c.loop-command.invariant.sink_count);
      step_count = omega (arith, c.in-Ok.ensures.cause.never_falls, c.loop-command.invariant.step_count);
      room = omega (arith, calls, less, room);
    }
