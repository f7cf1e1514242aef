use Rattle.std.proofs.Common.{refl, sym, subst}
use Rattle.pj_machine.specs.declared.command.Command.TheVariants as command
use Rattle.pj_machine.specs.declared.command.Write.TheVariants as write
use Rattle.pj_machine.specs.declared.reply.Reply.TheVariants.{No}
use Rattle.pj_state.specs.Installs.{Installs}
use Rattle.pj_state.proofs.Answering.{looks}
use Rattle.pj_state.proofs.Entering.{installs_fork, fork_refused}
use Rattle.pj_state.proofs.LookUps.{replies_of, standing_list}
use Rattle.pj_state.proofs.state.State.fork.Goals as goal

pub returns-in_default : goal.returns-in_default
returns-in_default c =
    let x = command.Fork c.args.from c.args.to in
    replies_of c.args.self.now c.args.pass c.args.call x c.no_channel.result (c.no_channel.ensures x refl)

pub returns-in-Some-refusal_to_make : goal.returns-in-Some-refusal_to_make
returns-in-Some-refusal_to_make c =
    looks c.args.self.now c.refused.ensures.legal c.args.pass c.args.call (command.Fork c.args.from c.args.to) (No c.in-Some-refusal_to_make.refusal)
    (λ s r. fork_refused c.args.self.now s c.args.from c.args.to c.in-Some.standing.now.channel
    (standing_list s c.args.self.now.journal c.args.from c.in-Some.standing.now (c.in-Some.ensures.found s r)) c.in-Some-refusal_to_make.refusal
    (c.in-Some-refusal_to_make.ensures s r (write.Fork c.args.from c.args.to))) c.refused.result c.refused.ensures.reply

pub install-requires : goal.install-requires
install-requires c = λ s r.
    subst (λ list. Installs c.args.self.now s (write.Fork c.args.from c.args.to) c.args.to list) (sym c.in-Ok.ensures)
    (installs_fork c.args.self.now s c.args.from c.args.to c.in-Some.standing.now.channel
    (standing_list s c.args.self.now.journal c.args.from c.in-Some.standing.now (c.in-Some.ensures.found s r)) (c.in_default-refusal_to_make.ensures s r))
