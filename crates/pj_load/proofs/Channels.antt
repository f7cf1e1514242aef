-- The changes of a channel after plain commands.
use Rattle.std.proofs.Common.{◌≡◌, ℕ, ◌+◌, Bool, true, false, not, ◌&&◌, ◌||◌, List, [], ◌∷◌, ◌++◌, length, take, drop, get_or, inl, inr, refl, sym, ◌∙◌, ap, subst, arith}
use Rattle.std.specs.Prelude.{◌≢◌, ◌⊎◌, AllPairs, All, Contains, Some, if◌then◌else◌}
use Rattle.std.specs.Str.{bytes_eq}
use Rattle.std.specs.Cmp.Lexicographic.{bytes_decides}
use Rattle.std.proofs.lemmas.List.{take-append-drop, drop_more, length-take-le, get_or_append_left}
use Rattle.std.proofs.lemmas.List.Elements.{All-head, All-tail, Contains-get_or}
use Rattle.std.proofs.lemmas.List.Folds.{list_any-append}
use Rattle.std.proofs.lemmas.Option.{same_Some}
use Rattle.std.proofs.Math.Bool.{or-false}
use Rattle.pj_name.specs.declared.name.Name.{Name}
use Rattle.pj_name.specs.Name.{same_name}
use Rattle.pj_change.specs.declared.change.Record.{Record}
use Rattle.pj_change.specs.Lawful.{is_held, IsLawful}
use Rattle.pj_change.specs.Unrecord.{without}
use Rattle.pj_change.proofs.EqualNames.{same_name_is, is_same_name}
use Rattle.pj_change.proofs.LawfulLists.{append_cases}
use Rattle.pj_change.proofs.Members.{none_member, uncons, no_member, first_member, later_member}
use Rattle.pj_machine.specs.declared.channel_name.ChannelName.{ChannelName}
use Rattle.pj_machine.specs.declared.command.Command.TheVariants as command
use Rattle.pj_machine.specs.declared.command.Write.{Write}
use Rattle.pj_machine.specs.declared.command.Write.TheVariants as write
use Rattle.pj_machine.specs.declared.journal.Entry.{Entry}
use Rattle.pj_machine.specs.Legal.{command_of}
use Rattle.pj_machine.specs.Replay.{Leads}
use Rattle.pj_machine.specs.State.{State, list_of}
use Rattle.pj_machine.specs.Step.{Steps}
use Rattle.pj_machine.proofs.SoundStates.{record_named}
use Rattle.pj_machine.specs.Entries.{commands}
use Rattle.pj_load.specs.Stands.{IsPlain, stands, HasList}
use Rattle.pj_state.proofs.Lists.{list_with_list}

-- ---- the names of a list that changed

held_more : (list : List Record) (r : Record) (name : Name) → is_held (list ++ r ∷ []) name ≡ (is_held list name || same_name r.name name)
held_more list r name = list_any-append (λ q. same_name q.name name) list (r ∷ []) ∙ ap (λ b. is_held list name || b) (or-false (same_name r.name name))

held_less : (list : List Record) (change name : Name) → is_held (without list change) name ≡ (is_held list name && not (same_name change name))
held_less [] change name = refl
held_less (r ∷ list) change name = go (held_less list change name) (same_name r.name change) refl (same_name r.name name) refl (same_name change name) refl
  where
    go : is_held (without list change) name ≡ (is_held list name && not (same_name change name)) → (a : Bool) → same_name r.name change ≡ a → (b : Bool) → same_name r.name name ≡ b → (c : Bool) → same_name change name ≡ c
        → is_held (without (r ∷ list) change) name ≡ (is_held (r ∷ list) name && not (same_name change name))
    go rest true p true q true e = rw p (rw q (rest ∙ ap (λ b. is_held list name && not b) e ∙ none (is_held list name) ∙ sym (ap not e)))
      where
        none : (b : Bool) → (b && false) ≡ false
        none true = refl
        none false = refl
    go rest true p true q false e = absurd (let h : same_name change name ≡ true = is_same_name change name (sym (same_name_is r.name change p) ∙ same_name_is r.name name q) in let k : true ≡ false = sym h ∙ e in cc)
    go rest true p false q true e = absurd (let h : same_name r.name name ≡ true = is_same_name r.name name (same_name_is r.name change p ∙ same_name_is change name e) in let k : true ≡ false = sym h ∙ q in cc)
    go rest true p false q false e = rw p (rw q rest)
    go rest false p true q true e = absurd (let h : same_name r.name change ≡ true = is_same_name r.name change (same_name_is r.name name q ∙ sym (same_name_is change name e)) in let k : true ≡ false = sym h ∙ p in cc)
    go rest false p true q false e = rw p (rw q (sym (ap not e)))
    go rest false p false q c e = rw p (rw q rest)

same_bytes : (a b : List ℕ) → bytes_eq a b ≡ true → a ≡ b
same_bytes a b h = (bytes_decides a b).0 h

-- ---- one step

pub plain_step : (s t : State) (w : Write) (channel : ChannelName) (list : List Record) → IsPlain (command_of w) → Steps s w t → list_of s channel ≡ Some list → HasList t channel list (command_of w ∷ [])
plain_step s t (write.Put r) channel list plain steps is = record { list = list; is = ap (λ (x : State). list_of x channel) steps ∙ is; members = λ name. refl }
plain_step s t (write.Apply other change) channel list plain steps is = go (bytes_eq other channel) refl
  where
    -- the list of the channel that is named
    there : bytes_eq other channel ≡ true → steps.0 ≡ list
    there h = same_Some steps.0 list (sym steps.2 ∙ ap (list_of s) (same_bytes other channel h) ∙ is)

    at : list_of t channel ≡ (if bytes_eq other channel then Some (steps.0 ++ steps.1 ∷ []) else list_of s channel)
    at = ap (λ (x : State). list_of x channel) steps.4 ∙ list_with_list s other (steps.0 ++ steps.1 ∷ []) steps.0 steps.2 channel

    go : (b : Bool) → bytes_eq other channel ≡ b → HasList t channel list (command.Apply other change ∷ [])
    go true h = record {
      list = list ++ steps.1 ∷ [];
      is = at ∙ ap (λ b. if b then Some (steps.0 ++ steps.1 ∷ []) else list_of s channel) h ∙ ap (λ l. Some (l ++ steps.1 ∷ [])) (there h);
      members = λ name. held_more list steps.1 name ∙ ap (λ n. is_held list name || same_name n name) (record_named s.store change steps.1 steps.3)
          ∙ sym (ap (λ b. if b then is_held list name || same_name change name else is_held list name) h);
    }
    go false h = record {
      list = list;
      is = at ∙ ap (λ b. if b then Some (steps.0 ++ steps.1 ∷ []) else list_of s channel) h ∙ is;
      members = λ name. sym (ap (λ b. if b then is_held list name || same_name change name else is_held list name) h);
    }
plain_step s t (write.Unrecord other change) channel list plain steps is = go (bytes_eq other channel) refl
  where
    there : bytes_eq other channel ≡ true → steps.0 ≡ list
    there h = same_Some steps.0 list (sym steps.1 ∙ ap (list_of s) (same_bytes other channel h) ∙ is)

    at : list_of t channel ≡ (if bytes_eq other channel then Some (without steps.0 change) else list_of s channel)
    at = ap (λ (x : State). list_of x channel) steps.2 ∙ list_with_list s other (without steps.0 change) steps.0 steps.1 channel

    go : (b : Bool) → bytes_eq other channel ≡ b → HasList t channel list (command.Unrecord other change ∷ [])
    go true h = record {
      list = without list change;
      is = at ∙ ap (λ b. if b then Some (without steps.0 change) else list_of s channel) h ∙ ap (λ l. Some (without l change)) (there h);
      members = λ name. held_less list change name ∙ sym (ap (λ b. if b then is_held list name && not (same_name change name) else is_held list name) h);
    }
    go false h = record {
      list = list;
      is = at ∙ ap (λ b. if b then Some (without steps.0 change) else list_of s channel) h ∙ is;
      members = λ name. sym (ap (λ b. if b then is_held list name && not (same_name change name) else is_held list name) h);
    }
plain_step s t (write.New name) channel list plain steps is = absurd plain
plain_step s t (write.Fork from to) channel list plain steps is = absurd plain
plain_step s t (write.Drop name) channel list plain steps is = absurd plain
plain_step s t (write.Uproot name change) channel list plain steps is = absurd plain
plain_step s t (write.Pull into from) channel list plain steps is = absurd plain

-- ---- all steps

pub plain_steps : (s t : State) (entries : List Entry) (channel : ChannelName) (list : List Record) → All IsPlain (commands entries) → Leads s entries t → list_of s channel ≡ Some list
    → HasList t channel list (commands entries)
plain_steps s t [] channel list plain leads is = record { list = list; is = ap (λ (x : State). list_of x channel) leads ∙ is; members = λ name. refl }
plain_steps s t (e ∷ entries) channel list plain leads is =
    let first = plain_step s leads.0 e.write channel list (All-head IsPlain (command_of e.write) (commands entries) plain) leads.1 is in
    let rest = plain_steps leads.0 t entries channel first.list (All-tail IsPlain (command_of e.write) (commands entries) plain) leads.2 first.is in
    record { list = rest.list; is = rest.is; members = λ name. rest.members name ∙ ap (λ b. stands channel name (commands entries) b) (first.members name) }

-- ---- what is stored

-- a change of the store was there before, or its text was put
stored_step : (s t : State) (w : Write) (r : Record) → Steps s w t → Contains t.store r → Contains s.store r ⊎ (command_of w ≡ command.Put r.text)
stored_step s t (write.Put q) r steps m = elim (append_cases s.store (q ∷ []) r (subst (λ (x : State). Contains x.store r) steps m)) [
  | inl n ↦ inl n
  | inr n ↦ elim (uncons q [] r n) [ inl e ↦ inr (ap (λ (x : Record). command.Put x.text) e) | inr k ↦ absurd (no_member r k) ]
]
stored_step s t (write.New name) r steps m = inl (subst (λ (x : State). Contains x.store r) steps m)
stored_step s t (write.Fork from to) r steps m = inl (subst (λ (x : State). Contains x.store r) steps.2 m)
stored_step s t (write.Drop name) r steps m = inl (subst (λ (x : State). Contains x.store r) steps m)
stored_step s t (write.Apply name change) r steps m = inl (subst (λ (x : State). Contains x.store r) steps.4 m)
stored_step s t (write.Unrecord name change) r steps m = inl (subst (λ (x : State). Contains x.store r) steps.2 m)
stored_step s t (write.Uproot name change) r steps m = inl (subst (λ (x : State). Contains x.store r) steps.4 m)
stored_step s t (write.Pull into from) r steps m = inl (subst (λ (x : State). Contains x.store r) steps.4 m)

pub stored : (s t : State) (entries : List Entry) (r : Record) → Leads s entries t → Contains t.store r → Contains s.store r ⊎ Contains (commands entries) (command.Put r.text)
stored s t [] r leads m = inl (subst (λ (x : State). Contains x.store r) leads m)
stored s t (e ∷ entries) r leads m = elim (stored leads.0 t entries r leads.2 m) [
  | inl n ↦ elim (stored_step s leads.0 e.write r leads.1 n) [
    | inl k ↦ inl k
    | inr k ↦ inr (subst (λ x. Contains (command_of e.write ∷ commands entries) x) k (first_member (command_of e.write) (commands entries)))
  ]
  | inr n ↦ inr (later_member (command_of e.write) (commands entries) (command.Put r.text) n)
]

-- ---- no name stands twice in a lawful list

pub once : (list : List Record) → IsLawful list → AllPairs (λ r q. r.name ≢ q.name) list
once list lawful i j d below within same =
    let c = get_or list j d in
    let stands : list ≡ take j list ++ c ∷ drop (j + 1) list = sym (take-append-drop j list) ∙ ap (λ t. take j list ++ t) (drop_more list j d within) in
    let fresh = (lawful (take j list) c (drop (j + 1) list) stands).fresh in
    let short : length (take j list) ≡ j = length-take-le j list (omega arith) in
    let at : get_or list i d ≡ get_or (take j list) i d = ap (λ l. get_or l i d) stands ∙ get_or_append_left (take j list) (c ∷ drop (j + 1) list) d i (omega arith) in
    let member : Contains (take j list) (get_or (take j list) i d) = Contains-get_or (take j list) i d (omega arith) in
    let apart : same_name (get_or (take j list) i d).name c.name ≡ false = none_member (λ r. same_name r.name c.name) (take j list) (get_or (take j list) i d) fresh member in
    let is : same_name (get_or (take j list) i d).name c.name ≡ true = is_same_name _ _ (ap (λ (r : Record). r.name) (sym at) ∙ same) in
    let h : true ≡ false = sym is ∙ apart in absurd (cc)
