use Rattle.std.proofs.Common.{refl}
use Rattle.pj_machine.specs.declared.command.Command.TheVariants as command
use Rattle.pj_machine.specs.declared.reply.Reply.TheVariants.{No}
use Rattle.pj_machine.specs.declared.reply.Refusal.TheVariants as refusal
use Rattle.pj_state.proofs.Answering.{looks}
use Rattle.pj_state.proofs.Entering.{installs_pull, pull_refused, kept_one_text}
use Rattle.pj_state.proofs.LookUps.{replies_of, standing_list}
use Rattle.pj_state.proofs.state.State.pull.Goals as goal

pub returns-in_default : goal.returns-in_default
returns-in_default c =
    let x = command.Pull c.args.into c.args.from in
    replies_of c.args.self.now c.args.pass c.args.call x c.no_channel.result (c.no_channel.ensures x refl)

pub returns-in_default-standing : goal.returns-in_default-standing
returns-in_default-standing c =
    looks c.args.self.now c.refused.ensures.legal c.args.pass c.args.call (command.Pull c.args.into c.args.from) (No refusal.Channel)
    (λ s r. pull_refused c.args.self.now s c.args.into c.args.from c.in-Some.standing.now.channel
    (standing_list s c.args.self.now.journal c.args.into c.in-Some.standing.now (c.in-Some.ensures.found s r)) (c.in_default-standing.ensures.found s r)) c.refused.result c.refused.ensures.reply

pub pull-requires : goal.pull-requires
pull-requires c =
    kept_one_text c.args.self.now c.standing.ensures.legal c.args.into c.args.from c.in-Some.standing.now.channel c.in-Some-standing.other.now.channel
    (λ s r. standing_list s c.args.self.now.journal c.args.into c.in-Some.standing.now (c.in-Some.ensures.found s r))
    (λ s r. standing_list s c.args.self.now.journal c.args.from c.in-Some-standing.other.now (c.in-Some-standing.ensures.found s r))

pub install-requires : goal.install-requires
install-requires c = λ s r.
    installs_pull c.args.self.now s c.args.into c.args.from c.in-Some.standing.now.channel c.in-Some-standing.other.now.channel
    (standing_list s c.args.self.now.journal c.args.into c.in-Some.standing.now (c.in-Some.ensures.found s r))
    (standing_list s c.args.self.now.journal c.args.from c.in-Some-standing.other.now (c.in-Some-standing.ensures.found s r)) c.in-Ok.channel c.in-Ok.ensures
