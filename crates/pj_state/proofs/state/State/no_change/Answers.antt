use Rattle.std.proofs.Common.{◌≡◌, refl, None, length}
use Rattle.pj_change.specs.Lawful.{record_of}
use Rattle.pj_machine.specs.declared.reply.Reply.TheVariants.{No}
use Rattle.pj_machine.specs.declared.reply.Refusal.TheVariants as refusal
use Rattle.pj_state.proofs.LookUps.{reads_at, without_change}
use Rattle.pj_state.proofs.state.State.no_change.Goals as goal

pub returns : goal.returns
returns c = λ x e.
    reads_at c.args.self.now (length c.args.self.now.journal) (λ s. record_of s.store c.args.name ≡ None) (record { at = refl; legal = c.refused.ensures.legal; state = c.requires }) x (No refusal.Change)
    (λ s none. without_change c.args.self.now.limits s c.args.self.now.journal c.args.name none x e) c.refused.result c.refused.ensures.reply
