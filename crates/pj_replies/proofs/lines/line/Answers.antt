use Rattle.std.proofs.Common.{◌≡◌, sym, ◌∙◌, ap, subst}
use Rattle.pj_machine.specs.declared.reply.Numbered.{Numbered}
use Rattle.pj_wire.specs.Replies.{reply_bytes}
use Rattle.pj_replies.specs.declared.found.Found.{Found}
use Rattle.pj_replies.specs.Finds.{Finds, first_of}
use Rattle.pj_replies.specs.Lines.{IsLine}
use Rattle.pj_replies.proofs.Replied.{line_found}
use Rattle.pj_replies.proofs.lines.line.Goals as goal

pub returns : goal.returns
returns c =
    let all : c.or-2.result ≡ first_of (first_of c.told.result c.refused.result) c.fixed.result = c.or-2.ensures ∙ ap (λ (r : Found Numbered). first_of r c.fixed.result) c.or.ensures in
    subst (λ (r : Found Numbered). Finds reply_bytes (IsLine c.args.due) c.args.bytes.now r) (sym all) (line_found c.args.due c.args.bytes.now _ _ _ c.told.ensures c.refused.ensures c.fixed.ensures)
