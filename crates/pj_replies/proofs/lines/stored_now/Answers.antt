use Rattle.std.proofs.Common.{sym, subst}
use Rattle.pj_machine.specs.declared.reply.Reply.{Reply}
use Rattle.pj_replies.specs.declared.due.Due.TheVariants as due
use Rattle.pj_replies.specs.declared.found.Found.{Found}
use Rattle.pj_replies.specs.Finds.{Finds}
use Rattle.pj_replies.specs.Lines.{IsDueTold, stored_bytes}
use Rattle.pj_replies.proofs.Replied.{stored_found}
use Rattle.pj_replies.proofs.lines.stored_now.Goals as goal

pub returns : goal.returns
returns c =
    subst (λ (r : Found Reply). Finds stored_bytes (IsDueTold (due.Put c.args.name)) c.args.bytes.now r) (sym c.or.ensures)
    (stored_found c.args.name _ c.args.bytes.now c.name_line-line.ensures _ _ c.fixed.ensures c.stored_before.ensures)
