use Rattle.std.proofs.Common.{refl, subst, Ok}
use Rattle.pj_change.specs.declared.refusals.PrintRefusal.TheVariants as print
use Rattle.pj_change.specs.Printing.{IsPrintAnswer}
use Rattle.pj_machine.specs.declared.reply.Reply.TheVariants.{Body}
use Rattle.pj_machine.specs.declared.reply.Refusal.TheVariants as refusal
use Rattle.pj_state.proofs.Replying.{print_reads}
use Rattle.pj_state.proofs.replies.printed.Goals as goal

pub returns-in-Ok : goal.returns-in-Ok
returns-in-Ok c = λ k list name at is.
    print_reads k c.args.place name list at (Ok c.in-Ok.bytes) (subst (IsPrintAnswer list k.limits.live) c.in-Ok.is is) (Body c.in-Ok.bytes) refl _ refl

pub returns-in-Err : goal.returns-in-Err
returns-in-Err c = λ k list name at is. c.unprinted.ensures k list name at (subst (IsPrintAnswer list k.limits.live) c.in-Err.is is)
