-- What is kept after one entry more.
use Rattle.std.proofs.Common.{◌≡◌, ◌+◌, ◌<◌, ◌≤◌, ℕ, List, [], ◌∷◌, ◌++◌, refl, sym, ◌∙◌, ap, subst, Bool, true, false, cond, length, arith, length-append, Some, None}
use Rattle.std.specs.Prelude.{if◌then◌else◌}
use Rattle.std.specs.Option.{option_map}
use Rattle.std.specs.Str.{bytes_eq}
use Rattle.std.specs.BTreeMap.{BTreeMap, get, Updates, UpdatesBy}
use Rattle.std.specs.declared.sync.Arc.{Arc}
use Rattle.std.proofs.lemmas.Map.Text.{is_eq-slice_cmp}
use Rattle.std.proofs.lemmas.List.Sums.{sum_by_push}
use Rattle.pj_name.specs.declared.name.Name.{Name}
use Rattle.pj_name.specs.Name.{same_name}
use Rattle.pj_change.specs.declared.change.Record.{Record}
use Rattle.pj_change.specs.Lawful.{record_of}
use Rattle.pj_machine.specs.declared.channel_name.ChannelName.{ChannelName}
use Rattle.pj_machine.specs.declared.command.Write.{Write}
use Rattle.pj_machine.specs.declared.command.Write.TheVariants as write
use Rattle.pj_machine.specs.declared.journal.Entry.{Entry}
use Rattle.pj_machine.specs.declared.limits.Limits.{Limits}
use Rattle.pj_machine.specs.declared.reply.Reply.{Reply}
use Rattle.pj_machine.specs.Answer.{AnswersIn, bytes_held}
use Rattle.pj_machine.specs.Call.{entry}
use Rattle.pj_machine.specs.ChannelName.{channel_cmp}
use Rattle.pj_machine.specs.Legal.{IsLegal, command_of}
use Rattle.pj_machine.specs.Outcome.{enters}
use Rattle.pj_machine.specs.Replay.{IsReplay}
use Rattle.pj_machine.specs.State.{State, opening, list_of, without_channel}
use Rattle.pj_machine.specs.Step.{Steps}
use Rattle.pj_machine.proofs.Replays.{leads_push}
use Rattle.pj_state.specs.declared.standing.Standing.{Standing}
use Rattle.pj_state.specs.Installs.{Sets}
use Rattle.pj_state.specs.IsKept.{IsStore, IsKept, standing, standing_of}
use Rattle.pj_state.specs.LastEntry.{changes, last_of}
use Rattle.pj_state.specs.Records.{record_in}
use Rattle.pj_state.proofs.Entries.{last_push, legal_push}
use Rattle.pj_state.proofs.Lists.{list_without_channel}
use Rattle.pj_state.proofs.Records.{record_push}

-- the store of a state with the same changes
store_same : {Z : Type 0} (limits : Limits) (s t : State) (pairs : List (Name × Arc Record Z)) (bytes : ℕ) → t.store ≡ s.store → IsStore limits s pairs bytes → IsStore limits t pairs bytes
store_same limits s t pairs bytes e h = record {
  records = λ name. h.records name ∙ ap (λ l. record_of l name) (sym e);
  count = h.count ∙ ap length (sym e);
  bytes_are = h.bytes_are ∙ ap (λ l. bytes_held (record { store = l; channels = s.channels })) (sym e);
  few = h.few;
}

module _ {Z : Type 0} (limits : Limits) (journal : List Entry) (pairs : List (Name × Arc Record Z)) (bytes : ℕ) (channels : BTreeMap ChannelName Standing)
    (h : IsKept limits journal pairs bytes channels) (pass call : ℕ) (w : Write) (reply : Reply)
    (answer : AnswersIn limits h.state journal (command_of w) (enters reply w)) (room : length journal < limits.entries) where
  abbrev e : Entry
  e = entry pass call w

  legal_after : IsLegal limits (journal ++ e ∷ [])
  legal_after = legal_push limits journal e h.legal room (record { reply = reply; answer = record { state = h.state; replayed = h.replayed; answers = answer } })

  replayed_after : (t : State) → Steps h.state w t → IsReplay (journal ++ e ∷ []) t
  replayed_after t steps = leads_push opening journal e h.state t h.replayed steps

  -- a channel is given a list
  pub kept_channel : (name : ChannelName) (list : List Record) → Sets h.state w name list → (after : BTreeMap ChannelName Standing) →
      Updates channel_cmp channels after name (Some (standing list (length journal + 1))) → IsKept limits (journal ++ e ∷ []) pairs bytes after
  kept_channel name list sets after updates = record {
    legal = legal_after;
    state = sets.to;
    replayed = replayed_after sets.to sets.steps;
    store = store_same limits h.state sets.to pairs bytes sets.store h.store;
    each = λ q. updates.0 q ∙ ap (λ b. cond b (Some (standing list (length journal + 1))) (get channel_cmp channels q)) (is_eq-slice_cmp name q) ∙ go q (bytes_eq name q) refl;
  }
    where
      go : (q : ChannelName) (b : Bool) → bytes_eq name q ≡ b → cond (bytes_eq name q) (Some (standing list (length journal + 1))) (get channel_cmp channels q) ≡ standing_of sets.to (journal ++ e ∷ []) q
      go q true f =
          let last : last_of q (journal ++ e ∷ []) ≡ length journal + 1 = last_push q journal e ∙ ap (λ b. if b then length journal + 1 else last_of q journal) (sets.changed q ∙ f) in
          let list_is : list_of sets.to q ≡ Some list = sets.lists q ∙ ap (λ b. if b then Some list else list_of h.state q) f in
          ap (λ b. cond b (Some (standing list (length journal + 1))) (get channel_cmp channels q)) f
          ∙ sym (ap (λ o. option_map (λ l. standing l (last_of q (journal ++ e ∷ []))) o) list_is ∙ ap (λ n. Some (standing list n)) last)
      go q false f =
          let last : last_of q (journal ++ e ∷ []) ≡ last_of q journal = last_push q journal e ∙ ap (λ b. if b then length journal + 1 else last_of q journal) (sets.changed q ∙ f) in
          let list_is : list_of sets.to q ≡ list_of h.state q = sets.lists q ∙ ap (λ b. if b then Some list else list_of h.state q) f in
          ap (λ b. cond b (Some (standing list (length journal + 1))) (get channel_cmp channels q)) f
          ∙ h.each q ∙ sym (ap (λ o. option_map (λ l. standing l (last_of q (journal ++ e ∷ []))) o) list_is ∙ ap (λ n. option_map (λ l. standing l n) (list_of h.state q)) last)

  -- a channel is taken away
  pub kept_dropped : (name : ChannelName) → w ≡ write.Drop name → (after : BTreeMap ChannelName Standing) →
      UpdatesBy channel_cmp (channel_cmp name) channels after None → IsKept limits (journal ++ e ∷ []) pairs bytes after
  kept_dropped name is after updates = record {
    legal = legal_after;
    state = without_channel h.state name;
    replayed = replayed_after (without_channel h.state name) (subst (λ x. Steps h.state x (without_channel h.state name)) (sym is) refl);
    store = store_same limits h.state (without_channel h.state name) pairs bytes refl h.store;
    each = λ q. updates.0 q ∙ ap (λ b. cond b None (get channel_cmp channels q)) (is_eq-slice_cmp name q) ∙ go q (bytes_eq name q) refl;
  }
    where
      go : (q : ChannelName) (b : Bool) → bytes_eq name q ≡ b → cond (bytes_eq name q) None (get channel_cmp channels q) ≡ standing_of (without_channel h.state name) (journal ++ e ∷ []) q
      go q true f =
          let gone : list_of (without_channel h.state name) q ≡ None = list_without_channel name h.state q ∙ ap (λ b. if b then None else list_of h.state q) f in
          ap (λ b. cond b None (get channel_cmp channels q)) f ∙ sym (ap (λ o. option_map (λ l. standing l (last_of q (journal ++ e ∷ []))) o) gone)
      go q false f =
          let touched : changes q w ≡ false = ap (changes q) is ∙ f in
          let last : last_of q (journal ++ e ∷ []) ≡ last_of q journal = last_push q journal e ∙ ap (λ b. if b then length journal + 1 else last_of q journal) touched in
          let list_is : list_of (without_channel h.state name) q ≡ list_of h.state q = list_without_channel name h.state q ∙ ap (λ b. if b then None else list_of h.state q) f in
          ap (λ b. cond b None (get channel_cmp channels q)) f
          ∙ h.each q ∙ sym (ap (λ o. option_map (λ l. standing l (last_of q (journal ++ e ∷ []))) o) list_is ∙ ap (λ n. option_map (λ l. standing l n) (list_of h.state q)) last)

  -- a change is stored
  pub kept_change : (r : Record) → w ≡ write.Put r → record_of h.state.store r.name ≡ None → bytes_held h.state + length r.text ≤ limits.bytes → (more : List (Name × Arc Record Z)) (bytes' : ℕ) →
      ((name : Name) → record_in more name ≡ cond (same_name r.name name) (Some r) (record_in pairs name)) → length more ≡ length pairs + 1 → bytes' ≡ bytes + length r.text →
      IsKept limits (journal ++ e ∷ []) more bytes' channels
  kept_change r is new fits more bytes' each count bytes_are = record {
    legal = legal_after;
    state = record { store = h.state.store ++ r ∷ []; channels = h.state.channels };
    replayed = replayed_after (record { store = h.state.store ++ r ∷ []; channels = h.state.channels }) (subst (λ x. Steps h.state x (record { store = h.state.store ++ r ∷ []; channels = h.state.channels })) (sym is) refl);
    store = record {
      records = λ name. each name ∙ ap (λ o. cond (same_name r.name name) (Some r) o) (h.store.records name) ∙ sym (record_push h.state.store r name new);
      count = (let a = h.store.count in let b = length-append h.state.store (r ∷ []) in omega arith);
      bytes_are = bytes_are ∙ ap (λ n. n + length r.text) h.store.bytes_are ∙ sym (sum_by_push (λ (x : Record). length x.text) h.state.store r);
      few = (let a = h.store.bytes_are in omega arith);
    };
    each = λ q.
        let touched : changes q w ≡ false = ap (changes q) is in
        let last : last_of q (journal ++ e ∷ []) ≡ last_of q journal = last_push q journal e ∙ ap (λ b. if b then length journal + 1 else last_of q journal) touched in
        h.each q ∙ sym (ap (λ n. option_map (λ l. standing l n) (list_of h.state q)) last);
  }
