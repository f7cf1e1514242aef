use Rattle.std.proofs.Common.{refl, subst}
use Rattle.pj_machine.specs.declared.command.Command.TheVariants as command
use Rattle.pj_machine.specs.Answer.{IsMalformed}
use Rattle.pj_state.proofs.LookUps.{replies_of}
use Rattle.pj_state.proofs.state.State.put_text.Goals as goal

pub returns-in-Err-Malformed : goal.returns-in-Err-Malformed
returns-in-Err-Malformed c =
    let told = rw c.in-Err-Malformed.field-0-is at c.in-Err-Malformed.ensures.malformed in
    let bad : IsMalformed c.args.text.now = subst (λ t. IsMalformed t) c.items.ensures (told refl) in
    replies_of c.args.self.now c.args.pass c.args.call (command.Put c.args.text.now) c.malformed.result (c.malformed.ensures c.args.text.now bad)
