use Rattle.std.proofs.Common.{sym, subst}
use Rattle.pj_machine.specs.declared.command.Command.TheVariants as command
use Rattle.pj_machine.specs.declared.command.Write.TheVariants as write
use Rattle.pj_machine.specs.declared.reply.Reply.TheVariants.{No}
use Rattle.pj_state.specs.Installs.{Installs}
use Rattle.pj_state.proofs.Answering.{looks}
use Rattle.pj_state.proofs.Entering.{installs_new}
use Rattle.pj_state.proofs.state.State.make.Goals as goal

pub returns-in-Some : goal.returns-in-Some
returns-in-Some c =
    looks c.args.self.now c.refused.ensures.legal c.args.pass c.args.call (command.New c.args.name) (No c.in-Some.refusal) (λ s r. c.in-Some.ensures s r (write.New c.args.name)) c.refused.result c.refused.ensures.reply

pub install-requires : goal.install-requires
install-requires c = λ s r.
    subst (λ list. Installs c.args.self.now s (write.New c.args.name) c.args.name list) (sym c.in-Ok.ensures) (installs_new c.args.self.now s c.args.name (c.in_default.ensures s r))
