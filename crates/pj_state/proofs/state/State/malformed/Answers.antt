use Rattle.std.proofs.Common.{refl, inl}
use Rattle.pj_machine.specs.declared.command.Command.TheVariants as command
use Rattle.pj_machine.specs.declared.reply.Reply.TheVariants.{No}
use Rattle.pj_machine.specs.declared.reply.Refusal.TheVariants as refusal
use Rattle.pj_state.proofs.Answering.{reads}
use Rattle.pj_state.proofs.state.State.malformed.Goals as goal

pub returns : goal.returns
returns c = λ text bad. reads c.args.self.now c.refused.ensures.legal (command.Put text) (No refusal.Malformed) (λ s r. inl (bad, refl)) c.refused.result c.refused.ensures.reply
