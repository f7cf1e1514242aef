use Rattle.std.proofs.Common.{refl, Err}
use Rattle.pj_change.specs.declared.refusals.UprootRefusal.TheVariants as not_taken
use Rattle.pj_machine.specs.declared.reply.Reply.TheVariants.{No}
use Rattle.pj_machine.specs.declared.reply.Refusal.TheVariants as refusal
use Rattle.pj_state.proofs.Replying.{installs_uprooted, uproot_reads}
use Rattle.pj_state.proofs.replies.uprooted.Goals as goal

pub returns-in-Ok-clause-uprooted : goal.returns-in-Ok-clause-uprooted
returns-in-Ok-clause-uprooted c = λ r k s name there stored. installs_uprooted k s name c.args.channel.now c.args.change r there stored c.in-Ok.after c.in-Ok.ensures

pub returns-in-Err-Absent-clause-refused : goal.returns-in-Err-Absent-clause-refused
returns-in-Err-Absent-clause-refused c = λ r k name at also.
    uproot_reads k c.args.place name c.args.channel.now c.args.change r at also (No refusal.Absent) c.refused_at.result c.refused_at.ensures (Err not_taken.Absent) (rw c.in-Err-Absent.field-0-is at c.in-Err-Absent.ensures) refl
