-- From a sound state a write that is entered leads to a sound state.
use Rattle.std.proofs.Common.{◌≡◌, ◌≤◌, ℕ, List, [], ◌∷◌, ◌++◌, refl, sym, ◌∙◌, ap, subst, inl, inr, Some, None, Ok, Err, append_assoc}
use Rattle.std.specs.Prelude.{Option, Result, MatchOption, Contains, length}
use Rattle.pj_name.specs.declared.name.Name.{Name}
use Rattle.pj_change.specs.declared.change.Record.{Record}
use Rattle.pj_change.specs.declared.refusals.Applied.{Applied}
use Rattle.pj_change.specs.declared.refusals.Applied.TheVariants as applied
use Rattle.pj_change.specs.declared.refusals.ApplyRefusal.{ApplyRefusal}
use Rattle.pj_change.specs.declared.refusals.ApplyRefusal.TheVariants as apply
use Rattle.pj_change.specs.declared.refusals.UnrecordRefusal.{UnrecordRefusal}
use Rattle.pj_change.specs.declared.refusals.UnrecordRefusal.TheVariants as unrecord
use Rattle.pj_change.specs.declared.refusals.UprootRefusal.{UprootRefusal}
use Rattle.pj_change.specs.declared.refusals.UprootRefusal.TheVariants as uproot
use Rattle.pj_change.specs.Apply.{IsApplyAnswer}
use Rattle.pj_change.specs.Lawful.{Follows, IsLawful, record_of}
use Rattle.pj_change.specs.Union.{union}
use Rattle.pj_change.specs.Unrecord.{IsUnrecordAnswer, MayLeave, without}
use Rattle.pj_change.specs.Uproot.{IsUprooted, Reaches}
use Rattle.pj_change.specs.Uprooting.{IsUprootAnswer}
use Rattle.pj_change.proofs.EqualRecords.{have_one_record}
use Rattle.pj_change.proofs.LawfulChanges.{lawful_push, unrecorded_lawful}
use Rattle.pj_change.proofs.LawfulLists.{append_cases}
use Rattle.pj_change.proofs.Members.{uncons, no_member}
use Rattle.pj_change.proofs.PickedMembers.{passed}
use Rattle.pj_change.proofs.RunLemmas.{union_within}
use Rattle.pj_change.proofs.Without.{uprooted_lawful, union_lawful, without_within}
use Rattle.pj_machine.specs.declared.channel_name.ChannelName.{ChannelName}
use Rattle.pj_machine.specs.declared.command.Write.{Write}
use Rattle.pj_machine.specs.declared.command.Write.TheVariants as write
use Rattle.pj_machine.specs.declared.journal.Entry.{Entry}
use Rattle.pj_machine.specs.declared.limits.Limits.{Limits}
use Rattle.pj_machine.specs.declared.reply.Reply.{Reply}
use Rattle.pj_machine.specs.declared.reply.Reply.TheVariants.{Done, Named}
use Rattle.pj_machine.specs.Answer
use Rattle.pj_machine.specs.Legal.{IsLegal, command_of}
use Rattle.pj_machine.specs.Outcome.{Outcome, says, enters, Unless}
use Rattle.pj_machine.specs.Replay.{Leads, IsReplay}
use Rattle.pj_machine.specs.State.{State, opening, list_of, with_channel}
use Rattle.pj_machine.specs.Step.{IsListOf, Steps}
use Rattle.pj_machine.specs.Sound.{IsSound}
use Rattle.pj_machine.proofs.Replays.{replay_one, leads_push}
use Rattle.pj_machine.proofs.SoundStates

-- ---- what is known where a write is entered

-- an outcome with a write
abbrev with_write : Reply → Write → Outcome
with_write reply w = record { reply = reply; entered = Some w }

module _ (reply : Reply) (w : Write) where
  -- no cause of a refusal stood
  passed_by : (cause : Type 0) (refused : Reply) (rest : Outcome → Type 0) → Unless cause refused rest (with_write reply w) → (cause → ⊥) × rest (with_write reply w)
  passed_by cause refused rest (inl a) = absurd (let e : Some w ≡ None = ap (λ (o : Outcome). o.entered) a.1 in cc)
  passed_by cause refused rest (inr a) = a

  -- what was looked up was there
  was_found : {X : Type 0} (found : Option X) (missing : Reply) (rest : X → Outcome → Type 0) →
      MatchOption found (with_write reply w ≡ says missing) (λ x. rest x (with_write reply w)) → (x : X) × (found ≡ Some x) × rest x (with_write reply w)
  was_found None missing rest h = absurd (let e : Some w ≡ None = ap (λ (o : Outcome). o.entered) h in cc)
  was_found (Some x) missing rest h = (x, refl, h)

-- where the write leads, and that the state is sound there
abbrev LeadsSound : State → Write → Type 0
LeadsSound s w = (t : State) × Steps s w t × IsSound t

-- ---- each write

module _ (limits : Limits) (s : State) (entries : ℕ) (sound : IsSound s) where
  put_sound : (reply : Reply) (r : Record) → Answer.Puts limits s entries r.text (with_write reply (write.Put r)) → LeadsSound s (write.Put r)
  put_sound reply r (inl a) = absurd (let e : Some (write.Put r) ≡ None = ap (λ (o : Outcome). o.entered) a.1 in cc)
  put_sound reply r (inr (q, text, h)) =
      let o = with_write reply (write.Put r) in
      let a = passed_by reply (write.Put r) _ _ (Unless (Answer.HasOtherText s q) _ (Unless (Answer.IsStoreFull limits s q.text) _ (Answer.Writes limits entries (Named q.name) (write.Put q)))) h in
      let b = passed_by reply (write.Put r) _ _ (Unless (Answer.IsStoreFull limits s q.text) _ (Answer.Writes limits entries (Named q.name) (write.Put q))) a.1 in
      let c = passed_by reply (write.Put r) _ _ (Answer.Writes limits entries (Named q.name) (write.Put q)) b.1 in
      let d = passed_by reply (write.Put r) _ _ (λ o. o ≡ enters (Named q.name) (write.Put q)) c.1 in
      let e : Some (write.Put r) ≡ Some (write.Put q) = ap (λ (o : Outcome). o.entered) d.1 in
      let same : q ≡ r = cc in
      let new : (p : Record) → Contains s.store p → p.name ≡ q.name → ⊥ = λ p m n.
      b.0 (record { stored = p; member = m; named = n; other = λ t. a.0 (record { stored = p; member = m; same = t }) }) in
      (_, refl, SoundStates.sound_put s sound r (subst (λ (x : Record). (p : Record) → Contains s.store p → p.name ≡ x.name → ⊥) same new))

  -- a channel that is made with this list
  made_sound : (reply : Reply) (w : Write) (name : ChannelName) (list : List Record) → IsLawful list → SoundStates.AreStored s.store list →
      Answer.Makes limits s entries name w (with_write reply w) → IsSound (with_channel s name list)
  made_sound reply w name list lawful stored h =
      SoundStates.sound_with_channel s sound name list lawful stored
      (passed_by reply w _ _ (Unless (limits.channels ≤ length s.channels) _ (Answer.Writes limits entries Done w)) h).0

  new_sound : (reply : Reply) (name : ChannelName) → Answer.Makes limits s entries name (write.New name) (with_write reply (write.New name)) → LeadsSound s (write.New name)
  new_sound reply name h = (_, refl, made_sound reply (write.New name) name [] SoundStates.none_lawful (SoundStates.none_stored s.store) h)

  fork_sound : (reply : Reply) (from to : ChannelName) → Answer.Forks limits s entries from to (with_write reply (write.Fork from to)) → LeadsSound s (write.Fork from to)
  fork_sound reply from to h =
      let w = write.Fork from to in
      let f = was_found reply w (list_of s from) _ (λ list. Answer.Makes limits s entries to w) h in
      (_, (f.0, f.1, refl), made_sound reply w to f.0 (SoundStates.list_lawful s from f.0 sound f.1) (SoundStates.list_stored s from f.0 sound f.1) f.2)

  drop_sound : (reply : Reply) (name : ChannelName) → LeadsSound s (write.Drop name)
  drop_sound reply name = (_, refl, SoundStates.sound_without_channel s sound name)

  -- ---- changes of a channel

  applied_follows : (reply : Reply) (w : Write) (list : List Record) (r : Record) (x : Result (Applied (List Record)) ApplyRefusal) → IsApplyAnswer list r x →
      Answer.AsApplied limits entries w x (with_write reply w) → Follows list r
  applied_follows reply w list r (Ok (applied.New after)) a h = ((a.new after).only refl).0
  applied_follows reply w list r (Ok applied.Already) a h = absurd (let e : Some w ≡ None = ap (λ (o : Outcome). o.entered) h in cc)
  applied_follows reply w list r (Err (apply.Needs name)) a h = absurd (let e : Some w ≡ None = ap (λ (o : Outcome). o.entered) h in cc)
  applied_follows reply w list r (Err (apply.Context k)) a h = absurd (let e : Some w ≡ None = ap (λ (o : Outcome). o.entered) h in cc)
  applied_follows reply w list r (Err apply.Memory) a h = absurd h

  unrecorded_leaves : (reply : Reply) (w : Write) (list : List Record) (name : Name) (x : Result (List Record) UnrecordRefusal) → IsUnrecordAnswer list name x →
      Answer.AsUnrecorded limits entries w x (with_write reply w) → MayLeave list name
  unrecorded_leaves reply w list name (Ok after) a h = ((a.out after).only refl).0
  unrecorded_leaves reply w list name (Err unrecord.Absent) a h = absurd (let e : Some w ≡ None = ap (λ (o : Outcome). o.entered) h in cc)
  unrecorded_leaves reply w list name (Err (unrecord.Held holder)) a h = absurd (let e : Some w ≡ None = ap (λ (o : Outcome). o.entered) h in cc)
  unrecorded_leaves reply w list name (Err unrecord.Memory) a h = absurd h

  uprooted_leaves : (reply : Reply) (w : Write) (list : List Record) (name : Name) (x : Result (List Record) UprootRefusal) → IsUprootAnswer list name x →
      Answer.AsUprooted limits entries w x (with_write reply w) → (rest : List Record) × IsUprooted list name rest
  uprooted_leaves reply w list name (Ok after) a h = (after, ((a.out after).only refl).1)
  uprooted_leaves reply w list name (Err uproot.Absent) a h = absurd (let e : Some w ≡ None = ap (λ (o : Outcome). o.entered) h in cc)
  uprooted_leaves reply w list name (Err uproot.Memory) a h = absurd h

  push_stored : (name change : _) (list : List Record) (r : Record) → IsListOf s name list → record_of s.store change ≡ Some r → SoundStates.AreStored s.store (list ++ r ∷ [])
  push_stored name change list r there found q m = elim (append_cases list (r ∷ []) q m) [
    | inl n ↦ SoundStates.list_stored s name list sound there q n
    | inr n ↦ elim (uncons r [] q n) [ inl e ↦ subst (λ (x : Record). record_of s.store x.name ≡ Some x) e itself | inr k ↦ absurd (no_member q k) ]
  ]
    where
      itself : record_of s.store r.name ≡ Some r
      itself = ap (record_of s.store) (SoundStates.record_named s.store change r found) ∙ found

  apply_sound : (reply : Reply) (name : ChannelName) (change : Name) → Answer.Applies limits s entries name change (with_write reply (write.Apply name change)) → LeadsSound s (write.Apply name change)
  apply_sound reply name change h =
      let w = write.Apply name change in
      let rest : List Record → Record → Outcome → Type 0 = λ list r o. (x : Result (Applied (List Record)) ApplyRefusal) × IsApplyAnswer list r x × Answer.AsApplied limits entries w x o in
      let f = was_found reply w (list_of s name) _ (λ list. Answer.InStore s change (rest list)) h in
      let g = was_found reply w (record_of s.store change) _ (rest f.0) f.2 in
      let follows = applied_follows reply w f.0 g.0 g.2.0 g.2.1 g.2.2 in (
        _,
        (f.0, g.0, f.1, g.1, refl),
        SoundStates.sound_with_list s sound name (f.0 ++ g.0 ∷ []) (lawful_push f.0 g.0 (SoundStates.list_lawful s name f.0 sound f.1) follows) (push_stored name change f.0 g.0 f.1 g.1),
      )

  unrecord_sound : (reply : Reply) (name : ChannelName) (change : Name) → Answer.Unrecords limits s entries name change (with_write reply (write.Unrecord name change)) → LeadsSound s (write.Unrecord name change)
  unrecord_sound reply name change h =
      let w = write.Unrecord name change in
      let rest : List Record → Record → Outcome → Type 0 = λ list r o. (x : Result (List Record) UnrecordRefusal) × IsUnrecordAnswer list change x × Answer.AsUnrecorded limits entries w x o in
      let f = was_found reply w (list_of s name) _ (λ list. Answer.InStore s change (rest list)) h in
      let g = was_found reply w (record_of s.store change) _ (rest f.0) f.2 in
      let leave = unrecorded_leaves reply w f.0 change g.2.0 g.2.1 g.2.2 in (
        _,
        (f.0, f.1, refl),
        SoundStates.sound_with_list s sound name (without f.0 change) (unrecorded_lawful f.0 change (SoundStates.list_lawful s name f.0 sound f.1) leave)
            (λ q m. SoundStates.list_stored s name f.0 sound f.1 q (passed _ f.0 q m).member),
      )

  uproot_sound : (reply : Reply) (name : ChannelName) (change : Name) → Answer.Uproots limits s entries name change (with_write reply (write.Uproot name change)) → LeadsSound s (write.Uproot name change)
  uproot_sound reply name change h =
      let w = write.Uproot name change in
      let rest : List Record → Record → Outcome → Type 0 = λ list r o. (x : Result (List Record) UprootRefusal) × IsUprootAnswer list change x × Answer.AsUprooted limits entries w x o in
      let f = was_found reply w (list_of s name) _ (λ list. Answer.InStore s change (rest list)) h in
      let g = was_found reply w (record_of s.store change) _ (rest f.0) f.2 in
      let left = uprooted_leaves reply w f.0 change g.2.0 g.2.1 g.2.2 in (
        _,
        (f.0, left.0, f.1, left.1, refl),
        SoundStates.sound_with_list s sound name left.0 (uprooted_lawful f.0 change left.0 (SoundStates.list_lawful s name f.0 sound f.1) left.1)
            (λ q m. SoundStates.list_stored s name f.0 sound f.1 q (without_within (Reaches f.0 change) f.0 left.0 left.1 q m)),
      )

  pull_sound : (reply : Reply) (into from : ChannelName) → Answer.Pulls limits s entries into from (with_write reply (write.Pull into from)) → LeadsSound s (write.Pull into from)
  pull_sound reply into from h =
      let w = write.Pull into from in
      let f = was_found reply w (list_of s into) _ (λ list. Answer.InChannel s from (λ other. Answer.Writes limits entries Done w)) h in
      let g = was_found reply w (list_of s from) _ (λ other. Answer.Writes limits entries Done w) f.2 in
      let both : SoundStates.AreStored s.store (f.0 ++ g.0) = λ q m. elim (append_cases f.0 g.0 q m) [
        | inl n ↦ SoundStates.list_stored s into f.0 sound f.1 q n
        | inr n ↦ SoundStates.list_stored s from g.0 sound g.1 q n
      ] in
      let unique = SoundStates.stored_one_text s.store (f.0 ++ g.0) both in (
        _,
        (f.0, g.0, f.1, g.1, refl),
        SoundStates.sound_with_list s sound into (union f.0 g.0)
            (union_lawful f.0 g.0 (have_one_record (f.0 ++ g.0) unique) (SoundStates.list_lawful s into f.0 sound f.1) (SoundStates.list_lawful s from g.0 sound g.1))
            (λ q m. both q (union_within f.0 g.0 q m)),
      )

-- a write that is entered
step_sound : (limits : Limits) (s : State) (journal : List Entry) → IsSound s → (reply : Reply) (w : Write) →
    Answer.AnswersIn limits s journal (command_of w) (with_write reply w) → LeadsSound s w
step_sound limits s journal sound reply (write.Put r) h = put_sound limits s (length journal) sound reply r h
step_sound limits s journal sound reply (write.New name) h = new_sound limits s (length journal) sound reply name h
step_sound limits s journal sound reply (write.Fork from to) h = fork_sound limits s (length journal) sound reply from to h
step_sound limits s journal sound reply (write.Drop name) h = drop_sound limits s (length journal) sound reply name
step_sound limits s journal sound reply (write.Apply name change) h = apply_sound limits s (length journal) sound reply name change h
step_sound limits s journal sound reply (write.Unrecord name change) h = unrecord_sound limits s (length journal) sound reply name change h
step_sound limits s journal sound reply (write.Uproot name change) h = uproot_sound limits s (length journal) sound reply name change h
step_sound limits s journal sound reply (write.Pull into from) h = pull_sound limits s (length journal) sound reply into from h

-- ---- journals

record LeadsOn (s : State) (rest : List Entry) : Type 0 where
  to : State
  leads : Leads s rest to
  sound : IsSound to

-- the entries that follow on those that were entered
leads_on : (limits : Limits) (journal : List Entry) → IsLegal limits journal → (before rest : List Entry) → journal ≡ before ++ rest → (s : State) → IsReplay before s → IsSound s → LeadsOn s rest
leads_on limits journal legal before [] stands s replayed sound = record { to = s; leads = refl; sound = sound }
leads_on limits journal legal before (e ∷ rest) stands s replayed sound =
    let a = legal.each before e rest stands in
    let same = replay_one before a.answer.state s a.answer.replayed replayed in
    let there = subst (λ x. Answer.AnswersIn limits x before (command_of e.write) (with_write a.reply e.write)) same a.answer.answers in
    let t = step_sound limits s before sound a.reply e.write there in
    let on = leads_on limits journal legal (before ++ e ∷ []) rest (stands ∙ sym (append_assoc before (e ∷ []) rest)) t.0 (leads_push opening before e s t.0 replayed t.1) t.2 in
    record { to = on.to; leads = (t.0, t.1, on.leads); sound = on.sound }

legal_leads : (limits : Limits) (journal : List Entry) → IsLegal limits journal → LeadsOn opening journal
legal_leads limits journal legal = leads_on limits journal legal [] journal refl opening refl SoundStates.sound_opening

pub legal_replay : (limits : Limits) (journal : List Entry) → IsLegal limits journal → (s : State) × IsReplay journal s
legal_replay limits journal legal = (let on = legal_leads limits journal legal in (on.to, on.leads))

pub legal_sound : (limits : Limits) (journal : List Entry) (s : State) → IsLegal limits journal → IsReplay journal s → IsSound s
legal_sound limits journal s legal replayed =
    let on = legal_leads limits journal legal in
    subst IsSound (replay_one journal on.to s on.leads replayed) on.sound
