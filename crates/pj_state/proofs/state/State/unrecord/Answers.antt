use Rattle.std.proofs.Common.{refl}
use Rattle.std.specs.Arc.{arc_value}
use Rattle.pj_machine.specs.declared.command.Command.TheVariants as command
use Rattle.pj_machine.specs.declared.reply.Reply.TheVariants.{No}
use Rattle.pj_machine.specs.declared.reply.Refusal.TheVariants as refusal
use Rattle.pj_state.proofs.Answering.{looks}
use Rattle.pj_state.proofs.Entering.{unrecord_refused}
use Rattle.pj_state.proofs.LookUps.{replies_of, standing_list}
use Rattle.pj_state.proofs.state.State.unrecord.Goals as goal

pub returns-in_default : goal.returns-in_default
returns-in_default c =
    let x = command.Unrecord c.args.name c.args.change in
    replies_of c.args.self.now c.args.pass c.args.call x c.no_channel.result (c.no_channel.ensures x refl)

pub returns-in_default-find : goal.returns-in_default-find
returns-in_default-find c =
    looks c.args.self.now c.refused.ensures.legal c.args.pass c.args.call (command.Unrecord c.args.name c.args.change) (No refusal.Change)
    (λ s r. unrecord_refused c.args.self.now s c.args.name c.in-Some.standing.now.channel
    (standing_list s c.args.self.now.journal c.args.name c.in-Some.standing.now (c.in-Some.ensures.found s r)) c.args.change (c.in_default-find.ensures s r)) c.refused.result c.refused.ensures.reply

pub install-requires : goal.install-requires
install-requires c = λ s r.
    c.in-Ok.ensures.unrecorded (arc_value c.in-Some-find.field-0.now) c.args.self.now s c.args.name
    (standing_list s c.args.self.now.journal c.args.name c.in-Some.standing.now (c.in-Some.ensures.found s r)) (c.in-Some-find.ensures s r)

pub returns-in-Err : goal.returns-in-Err
returns-in-Err c =
    replies_of c.args.self.now c.args.pass c.args.call (command.Unrecord c.args.name c.args.change) c.in-Err.reply
    (c.in-Err.ensures.refused (arc_value c.in-Some-find.field-0.now) c.args.self.now c.args.name
    (record {
      at = c.len.ensures.len;
      legal = c.len.ensures.legal;
      state = λ s r. standing_list s c.args.self.now.journal c.args.name c.in-Some.standing.now (c.in-Some.ensures.found s r);
    }) (record { at = c.len.ensures.len; legal = c.len.ensures.legal; state = λ s r. c.in-Some-find.ensures s r }))
