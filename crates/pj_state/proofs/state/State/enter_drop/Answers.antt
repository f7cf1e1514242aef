use Rattle.std.proofs.Common.{◌≡◌, ◌<◌, ◌++◌, ◌∷◌, [], length, refl, sym, subst}
use Rattle.pj_machine.specs.declared.command.Write.TheVariants as write
use Rattle.pj_machine.specs.declared.reply.Reply.TheVariants.{Done}
use Rattle.pj_machine.specs.Answer.{AnswersIn}
use Rattle.pj_machine.specs.Call.{entry}
use Rattle.pj_machine.specs.Legal.{command_of}
use Rattle.pj_machine.specs.Outcome.{enters}
use Rattle.pj_machine.specs.Replay.{IsReplay}
use Rattle.pj_state.specs.IsKept.{IsKept}
use Rattle.pj_state.proofs.KeptLemmas.{kept_dropped}
use Rattle.pj_state.proofs.state.State.enter_drop.Goals as goal

pub invariant_of-self-2 : goal.invariant_of-self-2
invariant_of-self-2 c =
    let h = c.self.invariant in
    let items = c.self.inside.entries.items in
    let limits = c.self.inside.limits in
    let w = write.Drop c.args.name in
    let back = sym c.self.view_is in
    let r : IsReplay c.args.self.now.journal h.state = subst (λ k. IsReplay k.journal h.state) c.self.view_is h.replayed in
    let answer : AnswersIn limits h.state items (command_of w) (enters Done w) = subst (λ k. AnswersIn k.limits h.state k.journal (command_of w) (enters Done w)) back (c.requires.answer h.state r) in
    let room : length items < limits.entries = subst (λ k. length k.journal < k.limits.entries) back c.requires.room in
    let after : c.push.new.self.items ≡ items ++ entry c.args.pass c.args.call w ∷ [] = rw c.if-is_err.ensures.negation at c.push.ensures.items in
    subst (λ j. IsKept limits j c.self.inside.store.records.entries c.self.inside.store.bytes c.remove-dropped.new.self) (sym after)
    (kept_dropped limits items _ _ c.self.inside.channels h c.args.pass c.args.call w Done answer room c.args.name refl c.remove-dropped.new.self c.remove-dropped.ensures.updates)
