use Rattle.std.proofs.Common.{◌≡◌, ◌+◌, ◌<◌, ◌++◌, ◌∷◌, [], length, sym, ◌∙◌, ap, subst, Some, arith}
use Rattle.std.specs.BTreeMap.{Updates}
use Rattle.pj_machine.specs.ChannelName.{channel_cmp}
use Rattle.pj_state.proofs.KeptFacts.{came_back}
use Rattle.pj_machine.specs.declared.reply.Reply.TheVariants.{Done}
use Rattle.pj_machine.specs.Answer.{AnswersIn}
use Rattle.pj_machine.specs.Call.{entry}
use Rattle.pj_machine.specs.Legal.{command_of}
use Rattle.pj_machine.specs.Outcome.{enters}
use Rattle.pj_machine.specs.Replay.{IsReplay}
use Rattle.pj_state.specs.IsKept.{IsKept, standing}
use Rattle.pj_state.proofs.KeptLemmas.{kept_channel}
use Rattle.pj_state.proofs.state.State.enter_channel.Goals as goal

pub invariant_of-self-2 : goal.invariant_of-self-2
invariant_of-self-2 c =
    let h = c.self.invariant in
    let items = c.self.inside.entries.items in
    let limits = c.self.inside.limits in
    let w = c.args.write in
    let back = sym c.self.view_is in
    let r : IsReplay c.args.self.now.journal h.state = subst (λ k. IsReplay k.journal h.state) c.self.view_is h.replayed in
    let answer : AnswersIn limits h.state items (command_of w) (enters Done w) = subst (λ k. AnswersIn k.limits h.state k.journal (command_of w) (enters Done w)) back (c.requires.answer h.state r) in
    let room : length items < limits.entries = subst (λ k. length k.journal < k.limits.entries) back c.requires.room in
    let after : c.push.new.self.items ≡ items ++ entry c.args.pass c.args.call w ∷ [] = c.in-Ok.ensures.items ∙ ap (λ j. j ++ entry c.args.pass c.args.call w ∷ []) c.reserve.ensures.items in
    let last : c.len.result ≡ length items = (let a = ap length c.reserve.ensures.items in let b = c.reserve.new.self.ok.0 in let d = c.len.ensures in omega arith) in
    let updates = came_back c.insert.result (Updates channel_cmp c.self.inside.channels c.insert.new.self c.args.name (Some (standing c.args.channel (c.len.result + 1)))) c.insert.ensures.updates (sym c.is_err-2.ensures.value ∙ c.if-is_err-2.false) in
    subst (λ j. IsKept limits j c.self.inside.store.records.entries c.self.inside.store.bytes c.insert.new.self) (sym after)
    (kept_channel limits items _ _ c.self.inside.channels h c.args.pass c.args.call w Done answer room c.args.name c.args.channel (c.requires.sets h.state r) c.insert.new.self
    (subst (λ n. Updates channel_cmp c.self.inside.channels c.insert.new.self c.args.name (Some (standing c.args.channel (n + 1)))) last updates))
