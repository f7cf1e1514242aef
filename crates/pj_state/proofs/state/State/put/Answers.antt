use Rattle.std.proofs.Common.{◌≡◌, ◌∙◌, length, ap, subst, sym, None, Some}
use Rattle.std.specs.Arc.{arc_value}
use Rattle.pj_change.specs.declared.change.Record.{Record}
use Rattle.pj_change.specs.Lawful.{record_of}
use Rattle.pj_machine.specs.declared.command.Command.TheVariants as command
use Rattle.pj_machine.specs.declared.command.Write.TheVariants as write
use Rattle.pj_machine.specs.declared.reply.Reply.TheVariants.{Named, No}
use Rattle.pj_machine.specs.declared.reply.Refusal.TheVariants as refusal
use Rattle.pj_machine.specs.Answer.{IsStoreFull}
use Rattle.pj_machine.specs.Outcome.{refuses, enters}
use Rattle.pj_machine.proofs.SoundSteps.{legal_sound}
use Rattle.pj_state.specs.Replies.{IsReplyToStored}
use Rattle.pj_state.proofs.Answering.{looks}
use Rattle.pj_state.proofs.Entering.{refuted, writes_full, writes_entered}
use Rattle.pj_state.proofs.Puts.{put_stored, put_full, put_writes}
use Rattle.pj_state.proofs.state.State.put.Goals as goal

pub returns-in-Some : goal.returns-in-Some
returns-in-Some c =
    let k = c.args.self.now in
    let it : Record = arc_value c.args.shared.now in
    let old : Record = arc_value c.in-Some.stored.now in
    let reply = c.reply_to_stored.result in
    let first = subst (λ (x : Record). IsReplyToStored x c.deref-in-Some-2.result.now reply) c.deref-in-Some.ensures c.reply_to_stored.ensures in
    let told : IsReplyToStored old it reply = subst (λ (x : Record). IsReplyToStored old x reply) c.deref-in-Some-2.ensures first in
    looks k c.replied.ensures.legal c.args.pass c.args.call (command.Put it.text) reply
    (λ s r. put_stored k.limits s (legal_sound k.limits k.journal s c.replied.ensures.legal r) (length k.journal) it old
    (subst (λ (x : Record). record_of s.store x.name ≡ Some old) c.deref.ensures (c.in-Some.ensures s r)) reply told) c.replied.result c.replied.ensures.reply

pub returns-then-is_store_full : goal.returns-then-is_store_full
returns-then-is_store_full c =
    let k = c.args.self.now in
    let it : Record = arc_value c.args.shared.now in
    let text : c.items.result.now ≡ it.text = c.items.ensures ∙ ap (λ (x : Record). x.text) c.deref-2.ensures in
    looks k c.refused.ensures.legal c.args.pass c.args.call (command.Put it.text) (No refusal.FullStore)
    (λ s r. put_full k.limits s (legal_sound k.limits k.journal s c.refused.ensures.legal r) (length k.journal) it
    (subst (λ (x : Record). record_of s.store x.name ≡ None) c.deref.ensures (c.in_default.ensures s r))
    (subst (λ t. IsStoreFull k.limits s t) text ((c.is_store_full.ensures s r).0 c.if-is_store_full.true))) c.refused.result c.refused.ensures.reply

pub returns-then-is_full : goal.returns-then-is_full
returns-then-is_full c =
    let k = c.args.self.now in
    let it : Record = arc_value c.args.shared.now in
    let legal = c.is_full.ensures.legal in
    let text : c.items.result.now ≡ it.text = c.items.ensures ∙ ap (λ (x : Record). x.text) c.deref-2.ensures in
    looks k legal c.args.pass c.args.call (command.Put it.text) (No refusal.FullJournal)
    (λ s r. put_writes k.limits s (legal_sound k.limits k.journal s legal r) (length k.journal) it
    (subst (λ (x : Record). record_of s.store x.name ≡ None) c.deref.ensures (c.in_default.ensures s r))
    (λ full. refuted c.is_store_full.result (c.is_store_full.ensures s r).1 c.if-is_store_full.false (subst (λ t. IsStoreFull k.limits s t) (sym text) full)) (refuses refusal.FullJournal)
    (writes_full k.limits (length k.journal) (Named it.name) (write.Put it) (c.is_full.ensures.full.0 c.if-is_full.true))) c.refused-then-is_full.result c.refused-then-is_full.ensures.reply

pub enter_change-requires-clause-answer : goal.enter_change-requires-clause-answer
enter_change-requires-clause-answer c =
    let k = c.args.self.now in
    let it : Record = arc_value c.args.shared.now in
    let legal = c.is_full.ensures.legal in
    let text : c.items.result.now ≡ it.text = c.items.ensures ∙ ap (λ (x : Record). x.text) c.deref-2.ensures in
    λ s r. put_writes k.limits s (legal_sound k.limits k.journal s legal r) (length k.journal) it
    (subst (λ (x : Record). record_of s.store x.name ≡ None) c.deref.ensures (c.in_default.ensures s r))
    (λ full. refuted c.is_store_full.result (c.is_store_full.ensures s r).1 c.if-is_store_full.false (subst (λ t. IsStoreFull k.limits s t) (sym text) full)) (enters (Named it.name) (write.Put it))
    (writes_entered k.limits (length k.journal) (Named it.name) (write.Put it) (refuted c.is_full.result c.is_full.ensures.full.1 c.if-is_full.false))
