use Rattle.std.proofs.Common.{◌≡◌, refl, None, length}
use Rattle.pj_machine.specs.declared.reply.Reply.TheVariants.{No}
use Rattle.pj_machine.specs.declared.reply.Refusal.TheVariants as refusal
use Rattle.pj_machine.specs.State.{list_of}
use Rattle.pj_state.proofs.LookUps.{reads_at, without_channel}
use Rattle.pj_state.proofs.state.State.no_channel.Goals as goal

pub returns : goal.returns
returns c = λ x e.
    reads_at c.args.self.now (length c.args.self.now.journal) (λ s. list_of s c.args.name.now ≡ None) (record { at = refl; legal = c.refused.ensures.legal; state = c.requires }) x (No refusal.Channel)
    (λ s none. without_channel c.args.self.now.limits s c.args.self.now.journal c.args.name.now none x e) c.refused.result c.refused.ensures.reply
