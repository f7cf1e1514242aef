use Rattle.std.proofs.Common.{refl, subst, Err}
use Rattle.pj_change.specs.declared.refusals.PrintRefusal.TheVariants as print
use Rattle.pj_change.specs.Printing.{IsPrintAnswer}
use Rattle.pj_machine.specs.declared.reply.Reply.TheVariants.{No}
use Rattle.pj_machine.specs.declared.reply.Refusal.TheVariants as refusal
use Rattle.pj_state.proofs.Replying.{print_reads}
use Rattle.pj_state.proofs.replies.unprinted.Goals as goal

pub returns-in-Wide : goal.returns-in-Wide
returns-in-Wide c = λ k list name at is.
    print_reads k c.args.place name list at (Err (print.Wide c.in-Wide.inode)) (subst (λ r. IsPrintAnswer list k.limits.live (Err r)) c.in-Wide.is is) (No (refusal.Wide c.in-Wide.inode)) refl
    c.refused_at.result c.refused_at.ensures
