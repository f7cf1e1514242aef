use Rattle.std.proofs.Common.{refl}
use Rattle.pj_machine.specs.declared.command.Command.TheVariants as command
use Rattle.pj_machine.specs.declared.reply.Reply.TheVariants.{No}
use Rattle.pj_machine.specs.declared.reply.Refusal.TheVariants as refusal
use Rattle.pj_state.proofs.Answering.{looks}
use Rattle.pj_state.proofs.Entering.{refuted, drop_full, drop_entered}
use Rattle.pj_state.proofs.LookUps.{replies_of, standing_list}
use Rattle.pj_state.proofs.state.State.take_away.Goals as goal

pub returns-in_default : goal.returns-in_default
returns-in_default c =
    let x = command.Drop c.args.name in
    replies_of c.args.self.now c.args.pass c.args.call x c.no_channel.result (c.no_channel.ensures x refl)

pub returns-then-is_full : goal.returns-then-is_full
returns-then-is_full c =
    looks c.args.self.now c.refused.ensures.legal c.args.pass c.args.call (command.Drop c.args.name) (No refusal.FullJournal)
    (λ s r. drop_full c.args.self.now s c.args.name c.in-Some.field-0.now.channel
    (standing_list s c.args.self.now.journal c.args.name c.in-Some.field-0.now (c.in-Some.ensures.found s r)) (c.is_full.ensures.full.0 c.if-is_full.true)) c.refused.result c.refused.ensures.reply

pub enter_drop-requires-clause-answer : goal.enter_drop-requires-clause-answer
enter_drop-requires-clause-answer c = λ s r.
    drop_entered c.args.self.now s c.args.name c.in-Some.field-0.now.channel
    (standing_list s c.args.self.now.journal c.args.name c.in-Some.field-0.now (c.in-Some.ensures.found s r)) (refuted c.is_full.result c.is_full.ensures.full.1 c.if-is_full.false)
