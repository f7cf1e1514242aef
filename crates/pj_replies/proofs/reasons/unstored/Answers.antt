use Rattle.std.proofs.Common.{◌≡◌, refl, sym, ◌∙◌, ap, subst}
use Rattle.pj_name.specs.Name.{no_name}
use Rattle.pj_machine.specs.declared.reply.Refusal.{Refusal}
use Rattle.pj_machine.specs.declared.reply.Refusal.TheVariants as refusal
use Rattle.pj_replies.specs.declared.due.Due.TheVariants as due
use Rattle.pj_replies.specs.declared.found.Found.{Found}
use Rattle.pj_replies.specs.Finds.{Finds, first_of}
use Rattle.pj_replies.specs.Lines.{IsDueReason, reason_line}
use Rattle.pj_replies.proofs.Refused.{as_reason, text_reason}
use Rattle.pj_replies.proofs.reasons.unstored.Goals as goal

pub returns : goal.returns
returns c =
    let bytes = c.args.bytes.now in
    let all : c.or-3.result ≡ first_of (first_of (first_of c.fixed.result c.fixed-2.result) c.fixed-3.result) c.fixed-4.result =
    c.or-3.ensures ∙ ap (λ (r : Found Refusal). first_of r c.fixed-4.result) (c.or-2.ensures ∙ ap (λ (r : Found Refusal). first_of r c.fixed-3.result) c.or.ensures) in
    subst (λ (r : Found Refusal). Finds reason_line (IsDueReason (due.Put no_name)) bytes r) (sym all)
    (text_reason bytes _ _ _ _ (as_reason refusal.Malformed _ bytes _ refl c.fixed.ensures) (as_reason refusal.Clash _ bytes _ refl c.fixed-2.ensures)
    (as_reason refusal.FullStore _ bytes _ refl c.fixed-3.ensures) (as_reason refusal.FullJournal _ bytes _ refl c.fixed-4.ensures))
