-- What a journal does to the store and to the list of one channel.
use Rattle.std.proofs.Common.{◌≡◌, List, [], ◌∷◌, ◌++◌, refl, sym, ◌∙◌, ap, Bool, true, false, map}
use Rattle.std.specs.Prelude.{Option, Some, None, find, if◌then◌else◌}
use Rattle.std.specs.Option.{option_map, option_or}
use Rattle.std.specs.Str.{bytes_eq}
use Rattle.std.specs.Cmp.Lexicographic.{bytes_decides}
use Rattle.std.proofs.lemmas.List.Folds.{find-append}
use Rattle.pj_name.specs.declared.name.Name.{Name}
use Rattle.pj_name.specs.Name.{same_name}
use Rattle.pj_change.specs.declared.change.Record.{Record}
use Rattle.pj_change.specs.Lawful.{record_of}
use Rattle.pj_machine.specs.declared.channel_name.ChannelName.{ChannelName}
use Rattle.pj_machine.specs.declared.command.Write.{Write}
use Rattle.pj_machine.specs.declared.command.Write.TheVariants as write
use Rattle.pj_machine.specs.declared.journal.Entry.{Entry}
use Rattle.pj_machine.specs.Replay.{Leads}
use Rattle.pj_machine.specs.State.{Channel, State, channel, is_named, list_of, with_channel, with_list}
use Rattle.pj_machine.specs.Step.{Steps}

-- ---- the store

-- what the first store has under a name the second has too
abbrev pub Keeps : List Record → List Record → Type 0
Keeps store later = (name : Name) (r : Record) → record_of store name ≡ Some r → record_of later name ≡ Some r

-- a write keeps what is stored
pub step_keeps : (s t : State) (w : Write) → Steps s w t → Keeps s.store t.store
step_keeps s t (write.Put q) steps name r there =
    ap (λ (x : State). record_of x.store name) steps ∙ find-append (λ x. same_name x.name name) s.store (q ∷ [])
    ∙ ap (λ o. option_or o (record_of (q ∷ []) name)) there
step_keeps s t (write.New other) steps name r there = ap (λ (x : State). record_of x.store name) steps ∙ there
step_keeps s t (write.Fork from to) steps name r there = ap (λ (x : State). record_of x.store name) steps.2 ∙ there
step_keeps s t (write.Drop other) steps name r there = ap (λ (x : State). record_of x.store name) steps ∙ there
step_keeps s t (write.Apply other change) steps name r there = ap (λ (x : State). record_of x.store name) steps.4 ∙ there
step_keeps s t (write.Unrecord other change) steps name r there = ap (λ (x : State). record_of x.store name) steps.2 ∙ there
step_keeps s t (write.Uproot other change) steps name r there = ap (λ (x : State). record_of x.store name) steps.4 ∙ there
step_keeps s t (write.Pull other from) steps name r there = ap (λ (x : State). record_of x.store name) steps.4 ∙ there

-- and so do all entries
pub leads_keep : (s t : State) (entries : List Entry) → Leads s entries t → Keeps s.store t.store
leads_keep s t [] leads name r there = ap (λ (x : State). record_of x.store name) leads ∙ there
leads_keep s t (e ∷ entries) leads name r there = leads_keep leads.0 t entries leads.2 name r (step_keeps s leads.0 e.write leads.1 name r there)

-- ---- entries in two parts

-- the entries of two parts lead to a state in between
pub leads_apart : (s t : State) (before more : List Entry) → Leads s (before ++ more) t → (between : State) × Leads s before between × Leads between more t
leads_apart s t [] more leads = (s, refl, leads)
leads_apart s t (e ∷ before) more leads = (let rest = leads_apart leads.0 t before more leads.2 in (rest.0, (leads.0, leads.1, rest.1), rest.2))

-- ---- the list of the channel that is made or changed

-- the list of a channel that was looked up
abbrev lists : Option Channel → Option (List Record)
lists o = option_map (λ (c : Channel). c.list) o

module _ (s : State) (name : ChannelName) (list : List Record) where
  -- a name is itself
  itself : bytes_eq name name ≡ true
  itself = (bytes_decides name name).1 refl

  -- a channel that is made has the list that it is made with
  pub made_list : list_of s name ≡ None → list_of (with_channel s name list) name ≡ Some list
  made_list none = ap lists (find-append (is_named name) s.channels (channel name list ∷ [])) ∙ go (find (is_named name) s.channels) none
    where
      here : find (is_named name) (channel name list ∷ []) ≡ Some (channel name list)
      here = rw itself refl

      go : (o : Option Channel) → lists o ≡ None → lists (option_or o (find (is_named name) (channel name list ∷ []))) ≡ Some list
      go None e = ap lists here
      go (Some c) e = absurd (cc)

  -- a channel with the new list, where it has the name
  abbrev changed : Channel → Channel
  changed c = if is_named name c then channel name list else c

  -- one that is changed has its new list
  pub changed_list : (old : List Record) → list_of s name ≡ Some old → list_of (with_list s name list) name ≡ Some list
  changed_list old e = go s.channels e
    where
      go : (channels : List Channel) → lists (find (is_named name) channels) ≡ Some old → lists (find (is_named name) (map changed channels)) ≡ Some list
      go [] h = absurd (cc)
      go (c ∷ channels) h = by_name (is_named name c) refl (go channels)
        where
          by_name : (b : Bool) → is_named name c ≡ b → (lists (find (is_named name) channels) ≡ Some old →
              lists (find (is_named name) (map changed channels)) ≡ Some list) →
              lists (find (is_named name) (map changed (c ∷ channels))) ≡ Some list
          by_name true named rest =
              let same : changed c ≡ channel name list = rw named refl in
              let found : find (is_named name) (channel name list ∷ map changed channels) ≡ Some (channel name list) = rw itself refl in
              ap (λ d. lists (find (is_named name) (d ∷ map changed channels))) same ∙ ap lists found
          by_name false named rest =
              let same : changed c ≡ c = rw named refl in
              let later : find (is_named name) (c ∷ map changed channels) ≡ find (is_named name) (map changed channels) = rw named refl in
              let was : find (is_named name) (c ∷ channels) ≡ find (is_named name) channels = rw named refl in
              ap (λ d. lists (find (is_named name) (d ∷ map changed channels))) same ∙ ap lists later ∙ rest (ap lists (sym was) ∙ h)
