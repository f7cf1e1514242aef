use Rattle.std.proofs.Common.{◌≡◌, ◌+◌, ◌≤◌, ◌<◌, ◌++◌, ◌∷◌, [], length, refl, sym, ◌∙◌, ap, subst, cond, Some, arith, inl, length-append}
use Rattle.pj_machine.specs.declared.command.Write.TheVariants as write
use Rattle.pj_machine.specs.declared.reply.Reply.TheVariants.{Named}
use Rattle.pj_machine.specs.Answer.{AnswersIn}
use Rattle.pj_machine.specs.Call.{entry}
use Rattle.pj_machine.specs.Legal.{command_of}
use Rattle.pj_machine.specs.Outcome.{enters}
use Rattle.pj_machine.specs.Replay.{IsReplay}
use Rattle.pj_state.specs.IsKept.{IsKept}
use Rattle.pj_state.proofs.KeptFacts.{came_back}
use Rattle.pj_state.proofs.KeptLemmas.{kept_change}
use Rattle.std.specs.Arc.{arc_value}
use Rattle.pj_name.specs.declared.name.Name.{Name}
use Rattle.pj_name.specs.Name.{same_name}
use Rattle.pj_change.specs.declared.change.Record.{Record}
use Rattle.pj_machine.specs.Answer.{bytes_held}
use Rattle.pj_state.specs.Kept.{kept}
use Rattle.pj_state.specs.Records.{record_in}
use Rattle.pj_state.specs.Replies.{Enters}
use Rattle.pj_state.proofs.Answering.{enters_now}
use Rattle.pj_state.proofs.state.State.enter_change.Goals as goal

pub invariant_of-self-2 : goal.invariant_of-self-2
invariant_of-self-2 c =
    let h = c.self.invariant in
    let items = c.self.inside.entries.items in
    let limits = c.self.inside.limits in
    let it : Record = arc_value c.args.shared.now in
    let w = write.Put it in
    let back = sym c.self.view_is in
    let r : IsReplay c.args.self.now.journal h.state = subst (λ k. IsReplay k.journal h.state) c.self.view_is h.replayed in
    let answer : AnswersIn limits h.state items (command_of w) (enters (Named it.name) w) = subst (λ k. AnswersIn k.limits h.state k.journal (command_of w) (enters (Named it.name) w)) back (c.requires.answer h.state r) in
    let room : length items < limits.entries = subst (λ k. length k.journal < k.limits.entries) back c.requires.room in
    let fits : bytes_held h.state + length it.text ≤ limits.bytes = subst (λ k. bytes_held h.state + length it.text ≤ k.limits.bytes) back (c.requires.fits h.state r) in
    let held : arc_value c.in-Ok.held ≡ it = c.in-Ok.ensures in
    let entered : c.of.result ≡ it = c.of.ensures ∙ c.in-Ok-try_clone.ensures in
    let added : c.push.new.self.items ≡ items ++ entry c.args.pass c.args.call (write.Put c.of.result) ∷ [] = c.in-Ok-push.ensures.items ∙ ap (λ j. j ++ entry c.args.pass c.args.call (write.Put c.of.result) ∷ []) c.reserve.ensures.items in
    let after : c.push.new.self.items ≡ items ++ entry c.args.pass c.args.call w ∷ [] = added ∙ ap (λ (x : Record). items ++ entry c.args.pass c.args.call (write.Put x) ∷ []) entered in
    let store = c.insert.new.self in
    let old = c.self.inside.store in
    let well = sym c.is_err-2.ensures.value ∙ c.if-is_err-2.false in
    let each = subst (λ (x : Record). (name : Name) → record_in store.records.entries name ≡ cond (same_name x.name name) (Some x) (record_in old.records.entries name)) held
    (came_back c.insert.result ((name : Name) → record_in store.records.entries name ≡ cond (same_name (arc_value c.in-Ok.held).name name) (Some (arc_value c.in-Ok.held)) (record_in old.records.entries name)) c.insert.ensures.found well) in
    let count = came_back c.insert.result (length store.records.entries ≡ length old.records.entries + 1) c.insert.ensures.count well in
    let bytes : store.bytes ≡ old.bytes + length it.text =
    came_back c.insert.result (store.bytes ≡ old.bytes + length (arc_value c.in-Ok.held).text) c.insert.ensures.bytes well ∙ ap (λ (x : Record). old.bytes + length x.text) held in
    subst (λ j. IsKept limits j store.records.entries store.bytes c.self.inside.channels) (sym after)
    (kept_change limits items _ _ c.self.inside.channels h c.args.pass c.args.call w (Named it.name) answer room it refl (c.requires.new h.state r) fits store.records.entries store.bytes each count bytes)

pub returns : goal.returns
returns c =
    let h = c.self.invariant in
    let items = c.self.inside.entries.items in
    let limits = c.self.inside.limits in
    let it : Record = arc_value c.args.shared.now in
    let w = write.Put it in
    let r : IsReplay c.args.self.now.journal h.state = subst (λ k. IsReplay k.journal h.state) c.self.view_is h.replayed in
    let entered : c.of.result ≡ it = c.of.ensures ∙ c.in-Ok-try_clone.ensures in
    let added : c.push.new.self.items ≡ items ++ entry c.args.pass c.args.call (write.Put c.of.result) ∷ [] = c.in-Ok-push.ensures.items ∙ ap (λ j. j ++ entry c.args.pass c.args.call (write.Put c.of.result) ∷ []) c.reserve.ensures.items in
    let after : c.push.new.self.items ≡ items ++ entry c.args.pass c.args.call w ∷ [] = added ∙ ap (λ (x : Record). items ++ entry c.args.pass c.args.call (write.Put x) ∷ []) entered in
    let all : Enters c.args.self.now c.args.pass c.args.call (command_of w) (kept limits c.push.new.self.items) (Named it.name) =
    enters_now c.args.self.now c.args.pass c.args.call w (Named it.name) h.state r (c.requires.answer h.state r) limits items c.push.new.self.items c.self.view_is after in
    let named : it.name ≡ c.deref.result.now.name = sym (ap (λ (x : Record). x.name) c.deref.ensures) in
    ((let a = ap length c.reserve.ensures.items in let n = ap length after in let m = length-append items (entry c.args.pass c.args.call w ∷ []) in let b = c.reserve.new.self.ok.0 in let d = c.len.ensures in omega arith), inl (subst (λ n. Enters c.args.self.now c.args.pass c.args.call (command_of w) (kept limits c.push.new.self.items) (Named n)) named all))
