use Rattle.std.proofs.Common.{◌≡◌, codes, refl}
use Rattle.pj_machine.specs.declared.reply.Reply.{Reply}
use Rattle.pj_replies.proofs.Behind.{behind}
use Rattle.pj_replies.proofs.Finding.{first_part, first_apart}
use Rattle.pj_replies.proofs.lines.stored_before.Goals as goal

pub returns-in-Part : goal.returns-in-Part
returns-in-Part c =
    first_part _ _ _ _ _ _ _ (behind (codes "already ") (λ (_ : Reply). c.args.line.now) (λ v. v ≡ c.args.value) c.args.value refl) c.args.bytes.now c.in-Part.ensures

pub returns-in-Apart : goal.returns-in-Apart
returns-in-Apart c =
    first_apart _ _ _ _ _ _ _ (behind (codes "already ") (λ (_ : Reply). c.args.line.now) (λ v. v ≡ c.args.value) c.args.value refl) c.args.bytes.now c.in-Apart.ensures
