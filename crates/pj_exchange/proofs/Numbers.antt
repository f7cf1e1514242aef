-- The numbers that the replies of a side say fit their types.
use Rattle.std.proofs.Common.{◌≡◌, ℕ, suc, ◌+◌, ◌*◌, ◌^◌, ◌<◌, ◌≤◌, Bool, true, false, not, List, [], ◌∷◌, ◌++◌, length, nat_lt, refl, sym, ◌∙◌, ap, subst, inl, inr, arith, length-append}
use Rattle.std.specs.Prelude.{◌⊎◌, Contains, Option, Some, None, MatchOption, Result, Ok, Err, position}
use Rattle.std.specs.List.{position_or_len}
use Rattle.std.proofs.lemmas.Bool.Decides.{nat_tests}
use Rattle.std.proofs.lemmas.List.{length-map}
use Rattle.pj_name.specs.declared.name.Name.{Name}
use Rattle.pj_name.specs.Name.{hex}
use Rattle.pj_name.proofs.Names.{length-hex}
use Rattle.pj_change.specs.declared.change.Record.{Record}
use Rattle.pj_change.specs.declared.refusals.Applied.{Applied}
use Rattle.pj_change.specs.declared.refusals.Applied.TheVariants as applied
use Rattle.pj_change.specs.declared.refusals.ApplyRefusal.{ApplyRefusal}
use Rattle.pj_change.specs.declared.refusals.ApplyRefusal.TheVariants as apply
use Rattle.pj_change.specs.Apply.{IsApplyAnswer}
use Rattle.pj_change.specs.Context.{holds}
use Rattle.pj_change.specs.Lawful.{needs_of, record_of}
use Rattle.pj_change.specs.Parts.{spelling}
use Rattle.pj_change.specs.Sets.{HaveDistinctNames}
use Rattle.pj_change.proofs.DistinctRecords.{lawful_distinct}
use Rattle.pj_change.proofs.LawfulLists.{first_part, second_part, middle_cases}
use Rattle.pj_change.proofs.PlaceLemmas.{longest-le}
use Rattle.pj_change.proofs.Members.{first_member, later_member, moved, splits}
use Rattle.pj_machine.specs.declared.channel_name.ChannelName.{ChannelName}
use Rattle.pj_machine.specs.declared.command.Command.{Command}
use Rattle.pj_machine.specs.declared.command.Command.TheVariants as command
use Rattle.pj_machine.specs.declared.command.Write.{Write}
use Rattle.pj_machine.specs.declared.command.Write.TheVariants as write
use Rattle.pj_machine.specs.declared.journal.Entry.{Entry}
use Rattle.pj_machine.specs.declared.limits.Limits.{Limits}
use Rattle.pj_machine.specs.declared.reply.Numbered.TheVariants.{At}
use Rattle.pj_machine.specs.declared.reply.Refusal.TheVariants as refusal
use Rattle.pj_machine.specs.declared.reply.Reply.{Reply}
use Rattle.pj_machine.specs.declared.reply.Reply.TheVariants.{Done, Already, Body, No}
use Rattle.pj_machine.specs.Answer.{IsAnswer, AsApplied}
use Rattle.pj_machine.specs.Legal.{IsLegal}
use Rattle.pj_machine.specs.Listings.{log_text}
use Rattle.pj_machine.specs.Outcome.{Outcome, enters, gives, refuses}
use Rattle.pj_machine.specs.Replay.{Leads, IsReplay}
use Rattle.pj_machine.specs.State.{State, opening, list_of}
use Rattle.pj_machine.specs.Step.{Steps}
use Rattle.pj_machine.proofs.SoundStates.{list_lawful, list_stored}
use Rattle.pj_machine.proofs.SoundSteps.{legal_sound}
use Rattle.pj_replies.specs.MayCome.{HasRoom}
use Rattle.pj_replies.proofs.Coming.{answers_may_come}
use Rattle.pj_exchange.proofs.Growing.{MayBeAsked}
use Rattle.pj_exchange.proofs.Replies.{names_of, given, passes}
use Rattle.pj_exchange.proofs.Unites.{stored_member}

-- ---- how long a log is

-- of each name there are 65 bytes
log_length : (names : List Name) → length (log_text names) ≡ 65 * length names
log_length [] = omega arith
log_length (n ∷ ns) =
    let rest = log_length ns in
    let size = length-hex n in
    let line = length-append (hex n.bytes) (10 ∷ []) in
    let whole = length-append (hex n.bytes ++ 10 ∷ []) (log_text ns) in
    omega arith

-- changes with distinct names are no more than the stored ones
no_longer : (list store : List Record) → HaveDistinctNames list → ((r : Record) → Contains list r → Contains store r) → length list ≤ length store
no_longer [] store distinct within = omega arith
no_longer (r ∷ list) store distinct within =
    let k = splits store r (within r (first_member r list)) in
    let rest : length list ≤ length (k.before ++ k.after) =
    no_longer list (k.before ++ k.after) (λ i j d less low. distinct (suc i) (suc j) d (omega arith) (omega arith))
    (λ q m. other k.before k.after q m (middle_cases k.before r k.after q (moved q k.is (within q (later_member r list q m))))) in
    let size : length store ≡ length (k.before ++ r ∷ k.after) = ap (λ (l : List Record). length l) k.is in
    omega (arith, size, rest, length-append k.before (r ∷ k.after), length-append k.before k.after)
  where
    other : (before after : List Record) (q : Record) → Contains list q → Contains before q ⊎ ((r ≡ q) ⊎ Contains after q) → Contains (before ++ after) q
    other before after q m (inl b) = first_part before after q b
    other before after q m (inr (inl same)) =
        let low = m.1 in
        absurd (distinct 0 (suc m.0) q (omega arith) (omega arith) (ap (λ (x : Record). x.name) (same ∙ sym m.2)))
    other before after q m (inr (inr a)) = second_part before after q a

-- a write stores one change at most
step_stores : (s t : State) (w : Write) → Steps s w t → length t.store ≤ length s.store + 1
step_stores s t (write.Put r) steps =
    let size : length t.store ≡ length (s.store ++ r ∷ []) = ap (λ (x : State). length x.store) steps in omega (arith, size, length-append s.store (r ∷ []))
step_stores s t (write.New name) steps = (let size : length t.store ≡ length s.store = ap (λ (x : State). length x.store) steps in omega arith)
step_stores s t (write.Fork from to) steps = (let size : length t.store ≡ length s.store = ap (λ (x : State). length x.store) steps.2 in omega arith)
step_stores s t (write.Drop name) steps = (let size : length t.store ≡ length s.store = ap (λ (x : State). length x.store) steps in omega arith)
step_stores s t (write.Apply name change) steps = (let size : length t.store ≡ length s.store = ap (λ (x : State). length x.store) steps.4 in omega arith)
step_stores s t (write.Unrecord name change) steps = (let size : length t.store ≡ length s.store = ap (λ (x : State). length x.store) steps.2 in omega arith)
step_stores s t (write.Uproot name change) steps = (let size : length t.store ≡ length s.store = ap (λ (x : State). length x.store) steps.4 in omega arith)
step_stores s t (write.Pull into from) steps = (let size : length t.store ≡ length s.store = ap (λ (x : State). length x.store) steps.4 in omega arith)

-- so there are no more than entries
leads_store : (s t : State) (entries : List Entry) → Leads s entries t → length t.store ≤ length s.store + length entries
leads_store s t [] leads = (let size : length t.store ≡ length s.store = ap (λ (x : State). length x.store) leads in omega arith)
leads_store s t (e ∷ entries) leads =
    let one = step_stores s leads.0 e.write leads.1 in
    let rest = leads_store leads.0 t entries leads.2 in omega arith

-- ---- replies to the commands of an exchange

-- what is found at a position stands within the list
position_within : {X : Type 0} (p : X → Bool) (xs : List X) (k : ℕ) → position p xs ≡ Some k → k < length xs
position_within p xs k e = go (nat_lt (position_or_len p xs) (length xs)) refl
  where
    go : (b : Bool) → nat_lt (position_or_len p xs) (length xs) ≡ b → k < length xs
    go true is = (let same : Some (position_or_len p xs) ≡ Some k = rw is at e in let at : position_or_len p xs ≡ k = cc in
        let low : position_or_len p xs < length xs = grind (arith, nat_tests) in omega arith)
    go false is = absurd (let none : None ≡ Some k = rw is at e in cc none)

module _ (limits : Limits) (journal : List Entry) (legal : IsLegal limits journal) where
  -- a log is short
  log_short : (s : State) → IsReplay journal s → (name : ChannelName) (list : List Record) → list_of s name ≡ Some list →
      length (log_text (names_of list)) < 2 ^ 64
  log_short s replayed name list is =
      let sound = legal_sound limits journal s legal replayed in
      let few = no_longer list s.store (lawful_distinct list (list_lawful s name list sound is))
      (λ r m. stored_member s.store r (list_stored s name list sound is r m)) in
      let stored = leads_store opening s journal replayed in
      let entries = legal.few in
      let most = limits.few_entries in
      let size = log_length (names_of list) in
      let names = length-map list (λ (r : Record). r.name) in
      omega arith

-- the text of a change is short
text_short : (r : Record) → length r.text ≤ 16777216
text_short r =
    let size : length r.text ≡ length (spelling r.change) = ap (λ (t : List ℕ). length t) r.spelled in
    let short = r.change.keeps.short in
    let most = longest-le r.change.version in
    omega arith

-- a context that does not hold has a small number
context_short : (limits : Limits) (entries : ℕ) (w : Write) (list : List Record) (it : Record) (result : Result (Applied (List Record)) ApplyRefusal)
    (entered : Option Write) (k : ℕ) →
    IsApplyAnswer list it result → AsApplied limits entries w result (record { reply = No (refusal.Context k); entered = entered }) → k < 2 ^ 32
context_short limits entries w list it (Ok applied.Already) entered k a h = absurd
    (let e : No (refusal.Context k) ≡ Already = ap (λ (o : Outcome). o.reply) h in cc e)
context_short limits entries w list it (Ok (applied.New after)) entered k a h = absurd (
    let o : Outcome = record { reply = No (refusal.Context k); entered = entered } in
    let e = passes (limits.entries ≤ entries) (No refusal.FullJournal) (λ o. o ≡ enters Done w) o h
    (λ q. let full : refusal.Context k ≡ refusal.FullJournal = cc in cc full) in
    let d : No (refusal.Context k) ≡ Done = ap (λ (o : Outcome). o.reply) e.1 in cc d)
context_short limits entries w list it (Err (apply.Needs need)) entered k a h = absurd (
    let e : No (refusal.Context k) ≡ No (refusal.Needs need) = ap (λ (o : Outcome). o.reply) h in
    let d : refusal.Context k ≡ refusal.Needs need = cc in cc d)
context_short limits entries w list it (Err (apply.Context n)) entered k a h =
    let e : No (refusal.Context k) ≡ No (refusal.Context n) = ap (λ (o : Outcome). o.reply) h in
    let d : refusal.Context k ≡ refusal.Context n = cc in
    let same : k ≡ n = cc in
    let broken = ((a.context n).only refl).2 in
    let low = position_within (λ h. not (holds it (needs_of list it) h)) it.change.hunks n broken in
    let few = it.change.keeps.few_hunks in
    omega arith
context_short limits entries w list it (Err apply.Memory) entered k a h = absurd h

-- the numbers of a reply to a command of an exchange fit
module _ (limits : Limits) (journal : List Entry) (legal : IsLegal limits journal) (c : ChannelName) (place : ℕ) (small : place < 2 ^ 64)
    (entered : Option Write) where
  -- the outcome with this reply
  abbrev told : Reply → Outcome
  told reply = record { reply = reply; entered = entered }

  -- the same reply
  room_as : (reply same : Reply) → reply ≡ same → HasRoom (At place same) → HasRoom (At place reply)
  room_as reply same e h = subst (λ r. HasRoom (At place r)) (sym e) h

  -- the text of a change
  pub got_short : (name : Name) (text : List ℕ) → IsAnswer limits journal (command.Get name) (Body text) entered → length text ≤ 16777216
  got_short name text a =
      let f = given (record_of a.state.store name) _ _ a.answers (λ e. let k : Body text ≡ No refusal.Change = ap (λ (o : Outcome). o.reply) e in cc k) in
      let is : Body text ≡ Body f.0.text = ap (λ (o : Outcome). o.reply) f.2 in
      let same : text ≡ f.0.text = cc in
      subst (λ t. length t ≤ 16777216) (sym same) (text_short f.0)

  -- each reply
  pub has_room : (x : Command) (reply : Reply) → MayBeAsked c x → IsAnswer limits journal x reply entered → HasRoom (At place reply)
  has_room (command.Log name) reply asked a = go (list_of a.state name) refl a.answers
    where
      go : (found : Option (List Record)) → list_of a.state name ≡ found →
          MatchOption found (told reply ≡ refuses refusal.Channel) (λ list. told reply ≡ gives (log_text (names_of list))) → HasRoom (At place reply)
      go None is e = room_as reply (No refusal.Channel) (ap (λ (o : Outcome). o.reply) e) (small, tt)
      go (Some list) is e =
          room_as reply (Body (log_text (names_of list))) (ap (λ (o : Outcome). o.reply) e)
          (small, log_short limits journal legal a.state a.replayed name list is)
  has_room (command.Get name) reply asked a = elim (answers_may_come limits journal (command.Get name) reply entered a) [
    | inl t ↦ room_as reply (Body t.0) t.1 (
      small,
      (let short = got_short name t.0
          (subst (λ r. IsAnswer limits journal (command.Get name) r entered) t.1 a) in omega arith),
    )
    | inr t ↦ room_as reply (No refusal.Change) (t.2 ∙ ap No t.1) (small, tt)
  ]
  has_room (command.Put text) reply asked a = elim (answers_may_come limits journal (command.Put text) reply entered a) [
    | inl t ↦ elim t [ inl e ↦ room_as reply _ e small | inr u ↦ elim u [ inl e ↦ room_as reply _ e small | inr k ↦ absurd k ] ]
    | inr t ↦ elim t.1 [
      | inl e ↦ room_as reply (No refusal.Malformed) (t.2 ∙ ap No e) (small, tt)
      | inr u ↦ elim u [
        | inl e ↦ room_as reply (No refusal.Clash) (t.2 ∙ ap No e) (small, tt)
        | inr v ↦ elim v [
          | inl e ↦ room_as reply (No refusal.FullStore) (t.2 ∙ ap No e) (small, tt)
          | inr z ↦ elim z [ inl e ↦ room_as reply (No refusal.FullJournal) (t.2 ∙ ap No e) (small, tt) | inr k ↦ absurd k ]
        ]
      ]
    ]
  ]
  has_room (command.New name) reply asked a = elim (answers_may_come limits journal (command.New name) reply entered a) [
    | inl e ↦ room_as reply Done e small
    | inr t ↦ elim t.1 [
      | inl e ↦ room_as reply (No refusal.Taken) (t.2 ∙ ap No e) (small, tt)
      | inr u ↦ elim u [
        | inl e ↦ room_as reply (No refusal.FullChannels) (t.2 ∙ ap No e) (small, tt)
        | inr v ↦ elim v [ inl e ↦ room_as reply (No refusal.FullJournal) (t.2 ∙ ap No e) (small, tt) | inr k ↦ absurd k ]
      ]
    ]
  ]
  has_room (command.Apply name change) reply asked a = elim (answers_may_come limits journal (command.Apply name change) reply entered a) [
    | inl t ↦ elim t [ inl e ↦ room_as reply Done e small | inr u ↦ elim u [ inl e ↦ room_as reply Already e small | inr k ↦ absurd k ] ]
    | inr t ↦ elim t.1 [
      | inl any ↦ elim any [
        | inl e ↦ room_as reply (No refusal.Channel) (t.2 ∙ ap No e) (small, tt)
        | inr u ↦ elim u [
          | inl e ↦ room_as reply (No refusal.Change) (t.2 ∙ ap No e) (small, tt)
          | inr v ↦ elim v [ inl e ↦ room_as reply (No refusal.FullJournal) (t.2 ∙ ap No e) (small, tt) | inr k ↦ absurd k ]
        ]
      ]
      | inr u ↦ elim u [
        | inl e ↦ room_as reply (No (refusal.Needs e.0)) (t.2 ∙ ap No e.1) (small, tt)
        | inr e ↦ room_as reply (No (refusal.Context e.0)) (t.2 ∙ ap No e.1)
            (small, short e.0 (subst (λ r. IsAnswer limits journal (command.Apply name change) r entered) (t.2 ∙ ap No e.1) a))
      ]
    ]
  ]
    where
      short : (k : ℕ) → IsAnswer limits journal (command.Apply name change) (No (refusal.Context k)) entered → k < 2 ^ 32
      short k b =
          let f = given (list_of b.state name) _ _ b.answers (λ e. let q : No (refusal.Context k) ≡ No refusal.Channel = ap
          (λ (o : Outcome). o.reply) e in let d : refusal.Context k ≡ refusal.Channel = cc in cc d) in
          let g = given (record_of b.state.store change) _ _ f.2
          (λ e. let q : No (refusal.Context k) ≡ No refusal.Change = ap
          (λ (o : Outcome). o.reply) e in let d : refusal.Context k ≡ refusal.Change = cc in cc d) in
          context_short limits (length journal) (write.Apply name change) f.0 g.0 g.2.0 entered k g.2.1 g.2.2
  has_room x reply asked a = absurd asked
