use Rattle.std.proofs.Common.{refl, Err}
use Rattle.pj_change.specs.declared.refusals.UnrecordRefusal.TheVariants as not_taken
use Rattle.pj_machine.specs.declared.reply.Reply.TheVariants.{No}
use Rattle.pj_machine.specs.declared.reply.Refusal.TheVariants as refusal
use Rattle.pj_state.proofs.Replying.{installs_unrecorded, unrecord_reads}
use Rattle.pj_state.proofs.replies.unrecorded.Goals as goal

pub returns-in-Ok-clause-unrecorded : goal.returns-in-Ok-clause-unrecorded
returns-in-Ok-clause-unrecorded c = λ r k s name there stored. installs_unrecorded k s name c.args.channel.now c.args.change r there stored c.in-Ok.after c.in-Ok.ensures

pub returns-in-Err-Absent-clause-refused : goal.returns-in-Err-Absent-clause-refused
returns-in-Err-Absent-clause-refused c = λ r k name at also.
    unrecord_reads k c.args.place name c.args.channel.now c.args.change r at also (No refusal.Absent) c.refused_at.result c.refused_at.ensures (Err not_taken.Absent) (rw c.in-Err-Absent.field-0-is at c.in-Err-Absent.ensures) refl

pub returns-in-Err-Held-clause-refused : goal.returns-in-Err-Held-clause-refused
returns-in-Err-Held-clause-refused c = λ r k name at also.
    unrecord_reads k c.args.place name c.args.channel.now c.args.change r at also (No (refusal.Held c.in-Err-Held.holder)) c.refused_at-in-Err-Held.result c.refused_at-in-Err-Held.ensures
    (Err (not_taken.Held c.in-Err-Held.holder)) (rw c.in-Err-Held.field-0-is at c.in-Err-Held.ensures) refl
