use Rattle.std.proofs.Common.{refl, Ok, Err}
use Rattle.std.specs.Arc.{arc_value}
use Rattle.pj_change.specs.declared.refusals.Applied.TheVariants as of_apply
use Rattle.pj_change.specs.declared.refusals.ApplyRefusal.TheVariants as not_applied
use Rattle.pj_machine.specs.declared.reply.Numbered.TheVariants.{At}
use Rattle.pj_machine.specs.declared.reply.Reply.TheVariants.{Already, No}
use Rattle.pj_machine.specs.declared.reply.Refusal.TheVariants as refusal
use Rattle.pj_state.proofs.Replying.{installs_applied, apply_reads}
use Rattle.pj_state.proofs.replies.applied.Goals as goal

pub returns-in-Ok-New-clause-applied : goal.returns-in-Ok-New-clause-applied
returns-in-Ok-New-clause-applied c = λ change k s name there stored.
    installs_applied k s name c.args.channel.now change (arc_value c.args.shared.now) there stored c.in-Ok-New.after (rw c.in-Ok-New.field-0-is at c.in-Ok-New.ensures)

pub returns-in-Ok-Already-clause-refused : goal.returns-in-Ok-Already-clause-refused
returns-in-Ok-Already-clause-refused c = λ change k name at also.
    apply_reads k c.args.place name c.args.channel.now change (arc_value c.args.shared.now) at also Already (At c.args.place Already) refl (Ok of_apply.Already) (rw c.in-Ok-Already.field-0-is at c.in-Ok-Already.ensures) refl

pub returns-in-Err-Needs-clause-refused : goal.returns-in-Err-Needs-clause-refused
returns-in-Err-Needs-clause-refused c = λ change k name at also.
    apply_reads k c.args.place name c.args.channel.now change (arc_value c.args.shared.now) at also (No (refusal.Needs c.in-Err-Needs.name)) c.refused_at.result c.refused_at.ensures
    (Err (not_applied.Needs c.in-Err-Needs.name)) (rw c.in-Err-Needs.field-0-is at c.in-Err-Needs.ensures) refl

pub returns-in-Err-Context-clause-refused : goal.returns-in-Err-Context-clause-refused
returns-in-Err-Context-clause-refused c = λ change k name at also.
    apply_reads k c.args.place name c.args.channel.now change (arc_value c.args.shared.now) at also (No (refusal.Context c.in-Err-Context.hunk)) c.refused_at-in-Err-Context.result c.refused_at-in-Err-Context.ensures
    (Err (not_applied.Context c.in-Err-Context.hunk)) (rw c.in-Err-Context.field-0-is at c.in-Err-Context.ensures) refl
