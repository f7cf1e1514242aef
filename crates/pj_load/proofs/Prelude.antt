-- What the prelude leaves: nine channels with the one change.
use Rattle.std.proofs.Common.{◌≡◌, ℕ, Bool, true, false, List, [], ◌∷◌, ◌++◌, map, inl, inr, refl, sym, ◌∙◌, ap, subst, Some, None}
use Rattle.std.specs.Prelude.{◌⊎◌, Contains, Option, find, if◌then◌else◌}
use Rattle.std.specs.Option.{option_map, option_or}
use Rattle.std.specs.Str.{bytes_eq}
use Rattle.std.specs.Cmp.Lexicographic.{bytes_decides}
use Rattle.std.proofs.lemmas.List.Folds.{find-append}
use Rattle.std.proofs.lemmas.Option.{same_Some}
use Rattle.pj_name.specs.declared.name.Name.{Name}
use Rattle.pj_name.specs.Name.{same_name}
use Rattle.pj_change.specs.declared.change.Record.{Record}
use Rattle.pj_change.specs.Lawful.{is_held}
use Rattle.pj_change.proofs.Members.{uncons, no_member}
use Rattle.pj_change.proofs.PickedMembers.{image}
use Rattle.pj_machine.specs.declared.channel_name.ChannelName.{ChannelName}
use Rattle.pj_machine.specs.declared.command.Command.TheVariants as command
use Rattle.pj_machine.specs.declared.command.Write.{Write}
use Rattle.pj_machine.specs.declared.command.Write.TheVariants as write
use Rattle.pj_machine.specs.declared.journal.Entry.{Entry}
use Rattle.pj_machine.specs.Legal.{command_of}
use Rattle.pj_machine.specs.Replay.{Leads}
use Rattle.pj_machine.specs.State.{Channel, State, channel, opening, is_named, list_of, with_channel, with_list}
use Rattle.pj_machine.specs.Step.{Steps}
use Rattle.pj_machine.specs.Entries.{commands}
use Rattle.pj_gen.specs.Changes.{eight, line_name, zero_text, zero_name}
use Rattle.pj_gen.specs.Requests.{main, opening_requests}
use Rattle.pj_load.specs.Stands.{HasList}
use Rattle.pj_load.proofs.Channels.{plain_step}

-- ---- a channel that is made

or_some : {X : Type 0} (a b : Option X) (x : X) → a ≡ Some x → option_or a b ≡ Some x
or_some a b x e = ap (λ o. option_or o b) e

abbrev lists : List Channel → ChannelName → Option (List Record)
lists channels c = option_map (λ (d : Channel). d.list) (find (is_named c) channels)

list_more : (s : State) (to : ChannelName) (list : List Record) (c : ChannelName) → list_of (with_channel s to list) c ≡ option_or (list_of s c) (if bytes_eq to c then Some list else None)
list_more s to list c = ap (option_map (λ (d : Channel). d.list)) (find-append (is_named c) s.channels (channel to list ∷ [])) ∙ both (find (is_named c) s.channels) (find (is_named c) (channel to list ∷ [])) ∙ ap (option_or (list_of s c)) (one (bytes_eq to c) refl)
  where
    both : (a b : Option Channel) → option_map (λ (d : Channel). d.list) (option_or a b) ≡ option_or (option_map (λ (d : Channel). d.list) a) (option_map (λ (d : Channel). d.list) b)
    both None b = refl
    both (Some x) b = refl

    one : (b : Bool) → bytes_eq to c ≡ b → lists (channel to list ∷ []) c ≡ (if bytes_eq to c then Some list else None)
    one true h = rw h refl
    one false h = rw h refl

-- the list, if the channel is there
abbrev IsAt : State → List Record → ChannelName → Type 0
IsAt s list c = (list_of s c ≡ Some list) ⊎ (list_of s c ≡ None)

some_stays : (s : State) (to : ChannelName) (list : List Record) (c : ChannelName) → list_of s c ≡ Some list → list_of (with_channel s to list) c ≡ Some list
some_stays s to list c h = list_more s to list c ∙ or_some (list_of s c) (if bytes_eq to c then Some list else None) list h

at_stays : (s : State) (to : ChannelName) (list : List Record) (c : ChannelName) → IsAt s list c → IsAt (with_channel s to list) list c
at_stays s to list c (inl h) = inl (some_stays s to list c h)
at_stays s to list c (inr h) = go (bytes_eq to c) refl
  where
    go : (b : Bool) → bytes_eq to c ≡ b → IsAt (with_channel s to list) list c
    go true e = inl (list_more s to list c ∙ ap (λ o. option_or o (if bytes_eq to c then Some list else None)) h ∙ ap (λ b. if b then Some list else None) e)
    go false e = inr (list_more s to list c ∙ ap (λ o. option_or o (if bytes_eq to c then Some list else None)) h ∙ ap (λ b. if b then Some list else None) e)

made : (s : State) (to : ChannelName) (list : List Record) → IsAt s list to → list_of (with_channel s to list) to ≡ Some list
made s to list (inl h) = some_stays s to list to h
made s to list (inr h) = list_more s to list to ∙ ap (λ o. option_or o (if bytes_eq to to then Some list else None)) h ∙ ap (λ b. if b then Some list else None) ((bytes_decides to to).1 refl)

-- ---- the forks

fork_is : (w : Write) (from to : ChannelName) → command_of w ≡ command.Fork from to → w ≡ write.Fork from to
fork_is (write.Put r) from to e = absurd (cc e)
fork_is (write.New name) from to e = absurd (cc e)
fork_is (write.Fork a b) from to e = cc
fork_is (write.Drop name) from to e = absurd (cc e)
fork_is (write.Apply name change) from to e = absurd (cc e)
fork_is (write.Unrecord name change) from to e = absurd (cc e)
fork_is (write.Uproot name change) from to e = absurd (cc e)
fork_is (write.Pull into from') from to e = absurd (cc e)

-- after the forks the channel has the list, if it had it or was made
module _ (list : List Record) where
  forks : (s t : State) (entries : List Entry) (done : List ChannelName) → commands entries ≡ map (λ c. command.Fork main c) done → Leads s entries t → list_of s main ≡ Some list
      → (c : ChannelName) → (list_of s c ≡ Some list) ⊎ ((list_of s c ≡ None) × Contains done c) → (list_of t main ≡ Some list) × (list_of t c ≡ Some list)
  forks s t [] [] are leads at c (inl h) = (ap (λ x. list_of x main) leads ∙ at, ap (λ x. list_of x c) leads ∙ h)
  forks s t [] [] are leads at c (inr h) = absurd (no_member c h.1)
  forks s t [] (d ∷ done) are leads at c h = absurd (cc are)
  forks s t (e ∷ entries) [] are leads at c h = absurd (cc are)
  forks s t (e ∷ entries) (d ∷ done) are leads at c h =
      let is : e.write ≡ write.Fork main d = fork_is e.write main d (let k : command_of e.write ≡ command.Fork main d = cc in k) in
      let rest : commands entries ≡ map (λ c. command.Fork main c) done = cc in
      let step : Steps s (write.Fork main d) leads.0 = subst (λ w. Steps s w leads.0) is leads.1 in
      let copied : step.0 ≡ list = same_Some step.0 list (sym step.1 ∙ at) in
      let after : leads.0 ≡ with_channel s d list = step.2 ∙ ap (λ l. with_channel s d l) copied in
      forks leads.0 t entries done rest leads.2 (ap (λ x. list_of x main) after ∙ some_stays s d list main at) c (next after h)
    where
      next : leads.0 ≡ with_channel s d list → (list_of s c ≡ Some list) ⊎ ((list_of s c ≡ None) × Contains (d ∷ done) c) → (list_of leads.0 c ≡ Some list) ⊎ ((list_of leads.0 c ≡ None) × Contains done c)
      next after (inl k) = inl (ap (λ x. list_of x c) after ∙ some_stays s d list c k)
      next after (inr k) = elim (at_stays s d list c (inr k.0)) [
        | inl there ↦ inl (ap (λ x. list_of x c) after ∙ there)
        | inr none ↦ elim (uncons d done c k.1) [
          | inl same ↦ inl (ap (λ x. list_of x c) after ∙ subst (λ n. list_of (with_channel s d list) n ≡ Some list) same (made s d list (inr (subst (λ n. list_of s n ≡ None) (sym same) k.0))))
          | inr m ↦ inr (ap (λ x. list_of x c) after ∙ none, m)
        ]
      ]

-- ---- the whole prelude

put_is : (w : Write) (text : List ℕ) → command_of w ≡ command.Put text → (r : Record) × (w ≡ write.Put r)
put_is (write.Put r) text e = (r, refl)
put_is (write.New name) text e = absurd (cc e)
put_is (write.Fork a b) text e = absurd (cc e)
put_is (write.Drop name) text e = absurd (cc e)
put_is (write.Apply name change) text e = absurd (cc e)
put_is (write.Unrecord name change) text e = absurd (cc e)
put_is (write.Uproot name change) text e = absurd (cc e)
put_is (write.Pull into from) text e = absurd (cc e)

apply_is : (w : Write) (c : ChannelName) (change : Name) → command_of w ≡ command.Apply c change → w ≡ write.Apply c change
apply_is (write.Put r) c change e = absurd (cc e)
apply_is (write.New name) c change e = absurd (cc e)
apply_is (write.Fork a b) c change e = absurd (cc e)
apply_is (write.Drop name) c change e = absurd (cc e)
apply_is (write.Apply a b) c change e = cc
apply_is (write.Unrecord name b) c change e = absurd (cc e)
apply_is (write.Uproot name b) c change e = absurd (cc e)
apply_is (write.Pull into from) c change e = absurd (cc e)

-- each of these channels has the one change
pub record HasZero (s : State) (c : ChannelName) : Type 0 where
  pub list : List Record
  pub is : list_of s c ≡ Some list
  pub members : (name : Name) → is_held list name ≡ same_name zero_name name

abbrev pub line_names : List ChannelName
line_names = map line_name eight

pub prelude_leads : (t : State) (entries : List Entry) → commands entries ≡ opening_requests → Leads opening entries t
    → HasZero t main × ((c : ChannelName) → Contains line_names c → HasZero t c)
unfolding opening_requests
prelude_leads t [] are leads = absurd (cc are)
prelude_leads t (e ∷ []) are leads = absurd (cc are)
prelude_leads t (e ∷ f ∷ entries) are leads = (both main (inl at_main), λ c m. both c (inr (none_yet c m, m)))
  where
    first : (r : Record) × (e.write ≡ write.Put r)
    first = put_is e.write zero_text (let k : command_of e.write ≡ command.Put zero_text = cc in k)

    second : f.write ≡ write.Apply main zero_name
    second = apply_is f.write main zero_name (let k : command_of f.write ≡ command.Apply main zero_name = cc in k)

    rest : commands entries ≡ map (λ c. command.Fork main c) line_names
    rest = cc

    stored : leads.0 ≡ record { store = first.0 ∷ []; channels = opening.channels }
    stored = subst (λ w. Steps opening w leads.0) first.1 leads.1

    applied : Steps leads.0 (write.Apply main zero_name) leads.2.0
    applied = subst (λ w. Steps leads.0 w leads.2.0) second leads.2.1

    has : HasList leads.2.0 main [] (command.Apply main zero_name ∷ [])
    has = plain_step leads.0 leads.2.0 (write.Apply main zero_name) main [] tt applied (ap (λ s. list_of s main) stored)

    list : List Record
    list = has.list

    at_main : list_of leads.2.0 main ≡ Some list
    at_main = has.is

    -- the other channels are not there yet
    none_yet : (c : ChannelName) → Contains line_names c → list_of leads.2.0 c ≡ None
    none_yet c m =
        let line = image line_name eight c m in
        subst (λ n. list_of leads.2.0 n ≡ None) line.is (ap (λ s. list_of s (line_name line.it)) (applied.4 ∙ ap (λ s. with_list s main (applied.0 ++ applied.1 ∷ [])) stored))

    both : (c : ChannelName) → (list_of leads.2.0 c ≡ Some list) ⊎ ((list_of leads.2.0 c ≡ None) × Contains line_names c) → HasZero t c
    both c h = record { list = list; is = (forks list leads.2.0 t entries line_names rest leads.2.2 at_main c h).1; members = λ name. has.members name }
