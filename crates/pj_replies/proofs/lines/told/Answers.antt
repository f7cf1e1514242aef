use Rattle.std.proofs.Common.{sym, subst}
use Rattle.pj_machine.specs.declared.reply.Numbered.{Numbered}
use Rattle.pj_wire.specs.Replies.{reply_bytes}
use Rattle.pj_replies.specs.declared.due.Due.{Due}
use Rattle.pj_replies.specs.declared.due.Due.TheVariants as due
use Rattle.pj_replies.specs.declared.found.Found.{Found}
use Rattle.pj_replies.specs.Finds.{Finds}
use Rattle.pj_replies.specs.Lines.{IsTold}
use Rattle.pj_replies.proofs.Replied.{applied_found}
use Rattle.pj_replies.proofs.lines.told.Goals as goal

pub returns-in-Apply : goal.returns-in-Apply
returns-in-Apply c =
    subst (λ (d : Due). Finds reply_bytes (IsTold d) c.args.bytes.now c.or.result) (sym c.in-Apply.is)
    (subst (λ (r : Found Numbered). Finds reply_bytes (IsTold due.Apply) c.args.bytes.now r) (sym c.or.ensures) (applied_found c.args.bytes.now _ _ c.done.ensures c.already.ensures))
