-- Refusals that do not come where their cause is known not to stand.
use Rattle.std.proofs.Common.{◌≡◌, ◌≢◌, ℕ, ◌≤◌, List, length, ap, subst, inl, inr}
use Rattle.std.specs.Prelude.{Option, Some, None, IsSome, MatchOption, Result, Ok, Err}
use Rattle.pj_name.specs.declared.name.Name.{Name}
use Rattle.pj_change.specs.declared.change.Record.{Record}
use Rattle.pj_change.specs.declared.refusals.Applied.{Applied}
use Rattle.pj_change.specs.declared.refusals.Applied.TheVariants as applied
use Rattle.pj_change.specs.declared.refusals.ApplyRefusal.{ApplyRefusal}
use Rattle.pj_change.specs.declared.refusals.ApplyRefusal.TheVariants as apply
use Rattle.pj_change.specs.Apply.{IsApplyAnswer}
use Rattle.pj_change.specs.Lawful.{record_of}
use Rattle.pj_machine.specs.declared.channel_name.ChannelName.{ChannelName}
use Rattle.pj_machine.specs.declared.command.Command.TheVariants as command
use Rattle.pj_machine.specs.declared.command.Write.{Write}
use Rattle.pj_machine.specs.declared.command.Write.TheVariants as write
use Rattle.pj_machine.specs.declared.journal.Entry.{Entry}
use Rattle.pj_machine.specs.declared.limits.Limits.{Limits}
use Rattle.pj_machine.specs.declared.reply.Refusal.{Refusal}
use Rattle.pj_machine.specs.declared.reply.Refusal.TheVariants as refusal
use Rattle.pj_machine.specs.declared.reply.Reply.{Reply}
use Rattle.pj_machine.specs.declared.reply.Reply.TheVariants.{Done, Named, Already, AlreadyNamed, Body, No}
use Rattle.pj_machine.specs.Answer.{AnswersIn, AsApplied, HasOtherText, HasText, InStore, IsStoreFull, Writes}
use Rattle.pj_machine.specs.Outcome.{Outcome, enters, refuses, Unless}
use Rattle.pj_machine.specs.State.{State, list_of}
use Rattle.pj_exchange.proofs.Replies.{passes, there_so}

module _ (limits : Limits) (s : State) (journal : List Entry) (entered : Option Write) where
  -- the outcome with this refusal
  abbrev refused : Refusal → Outcome
  refused why = record { reply = No why; entered = entered }

  -- a write is refused for a full journal alone
  writes_full : (w : Write) (reply : Reply) (why : Refusal) → (No why ≢ reply) → (why ≢ refusal.FullJournal) →
      Writes limits (length journal) reply w (refused why) → ⊥
  writes_full w reply why other full h =
      let e = passes (limits.entries ≤ length journal) (No refusal.FullJournal) (λ o. o ≡ enters reply w) (refused why) h
      (λ k. full (let same : why ≡ refusal.FullJournal = cc in same)) in
      other (ap (λ (o : Outcome). o.reply) e.1)

  -- a channel that is not there is not refused as taken
  pub not_taken : (name : ChannelName) → list_of s name ≡ None → AnswersIn limits s journal (command.New name) (refused refusal.Taken) → ⊥
  not_taken name none (inl a) = not_there (subst (λ o. IsSome o) none a.0)
    where
      not_there : IsSome {T = List Record} None → ⊥
      not_there h = cc h
  not_taken name none (inr a) =
      let b = passes (limits.channels ≤ length s.channels) (No refusal.FullChannels) (Writes limits (length journal) Done (write.New name))
      (refused refusal.Taken) a.1
      (λ k. let same : refusal.Taken ≡ refusal.FullChannels = cc in cc same) in
      writes_full (write.New name) Done refusal.Taken (λ k. cc k) (λ k. cc k) b.1

  -- where a change is refused as another text of its name, the store has one
  pub clashes : (text : List ℕ) → AnswersIn limits s journal (command.Put text) (refused refusal.Clash) → (r : Record) × (r.text ≡ text) × HasOtherText s r
  clashes text (inl a) = absurd (
      let k : No refusal.Clash ≡ No refusal.Malformed = ap (λ (o : Outcome). o.reply) a.1 in
      let same : refusal.Clash ≡ refusal.Malformed = cc in cc same)
  clashes text (inr (r, is, h)) = (r, is, other)
    where
      not_full : Unless (IsStoreFull limits s r.text) (No refusal.FullStore) (Writes limits (length journal) (Named r.name) (write.Put r))
          (refused refusal.Clash) → ⊥
      not_full u =
          let d = passes (IsStoreFull limits s r.text) (No refusal.FullStore) (Writes limits (length journal) (Named r.name) (write.Put r))
          (refused refusal.Clash) u
          (λ k. let same : refusal.Clash ≡ refusal.FullStore = cc in cc same) in
          writes_full (write.Put r) (Named r.name) refusal.Clash (λ k. cc k) (λ k. cc k) d.1

      other : HasOtherText s r
      other =
          let a = passes (HasText s r.text) (AlreadyNamed r.name)
          (Unless (HasOtherText s r) (No refusal.Clash) (Unless (IsStoreFull limits s r.text) (No refusal.FullStore)
          (Writes limits (length journal) (Named r.name) (write.Put r))))
          (refused refusal.Clash) h (λ k. cc k) in
          elim a.1 [ inl b ↦ b.0 | inr b ↦ absurd (not_full b.1) ]

  -- a change that is stored is not refused as none
  pub not_change : (name : Name) (r : Record) → record_of s.store name ≡ Some r → AnswersIn limits s journal (command.Get name) (refused refusal.Change) → ⊥
  not_change name r there h =
      let e = there_so (record_of s.store name) _ _ r there h in
      let k : No refusal.Change ≡ Body r.text = ap (λ (o : Outcome). o.reply) e in
      cc k

  -- an application is refused for a channel or a change that is not there by no other rule
  applied_so : (w : Write) (why : Refusal) → why ≢ refusal.FullJournal → ((need : Name) → why ≢ refusal.Needs need) → ((k : ℕ) → why ≢ refusal.Context k) →
      (result : Result (Applied (List Record)) ApplyRefusal) → AsApplied limits (length journal) w result (refused why) → ⊥
  applied_so w why full need context (Ok applied.Already) h = (let k : No why ≡ Already = ap (λ (o : Outcome). o.reply) h in cc k)
  applied_so w why full need context (Ok (applied.New after)) h = writes_full w Done why (λ k. cc k) full h
  applied_so w why full need context (Err (apply.Needs n)) h = (let k : No why ≡ No (refusal.Needs n) = ap (λ (o : Outcome). o.reply) h in need n
      (let same : why ≡ refusal.Needs n = cc in same))
  applied_so w why full need context (Err (apply.Context n)) h = (let k : No why ≡ No (refusal.Context n) = ap (λ (o : Outcome). o.reply) h in context n
      (let same : why ≡ refusal.Context n = cc in same))
  applied_so w why full need context (Err apply.Memory) h = h

  -- a change for a channel that is there is not refused for the channel
  pub not_channel : (name : ChannelName) (change : Name) (list : List Record) → list_of s name ≡ Some list →
      AnswersIn limits s journal (command.Apply name change) (refused refusal.Channel) → ⊥
  not_channel name change list there h = go (record_of s.store change) (there_so (list_of s name) _ _ list there h)
    where
      go : (found : Option Record) → MatchOption found (refused refusal.Channel ≡ refuses refusal.Change)
          (λ r. (result : Result (Applied (List Record)) ApplyRefusal) × IsApplyAnswer list r result × AsApplied limits (length journal)
          (write.Apply name change) result (refused refusal.Channel)) → ⊥
      go None e = (let k : No refusal.Channel ≡ No refusal.Change = ap
          (λ (o : Outcome). o.reply) e in let same : refusal.Channel ≡ refusal.Change = cc in cc same)
      go (Some r) a = applied_so (write.Apply name change) refusal.Channel (λ k. cc k) (λ n k. cc k) (λ n k. cc k) a.0 a.2

  -- nor one that is stored for the change
  pub not_stored : (name : ChannelName) (change : Name) (r : Record) → record_of s.store change ≡ Some r →
      AnswersIn limits s journal (command.Apply name change) (refused refusal.Change) → ⊥
  not_stored name change r there h = go (list_of s name) h
    where
      go : (found : Option (List Record)) → MatchOption found (refused refusal.Change ≡ refuses refusal.Channel)
          (λ list. InStore s change (λ q o. (result : Result (Applied (List Record)) ApplyRefusal) × IsApplyAnswer list q result × AsApplied limits
          (length journal) (write.Apply name change) result o) (refused refusal.Change)) → ⊥
      go None e = (let k : No refusal.Change ≡ No refusal.Channel = ap
          (λ (o : Outcome). o.reply) e in let same : refusal.Change ≡ refusal.Channel = cc in cc same)
      go (Some list) g =
          let a = there_so (record_of s.store change) _ _ r there g in
          applied_so (write.Apply name change) refusal.Change (λ k. cc k) (λ n k. cc k) (λ n k. cc k) a.0 a.2
