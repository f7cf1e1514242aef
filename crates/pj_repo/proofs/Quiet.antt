-- A channel that no entry changes has the list that it had, and the store keeps its changes.
use Rattle.std.proofs.Common.{◌≡◌, ◌<◌, ◌≤◌, ℕ, ◌+◌, List, [], ◌∷◌, ◌++◌, length, refl, sym, ◌∙◌, ap, Bool, true, false, arith}
use Rattle.std.specs.Prelude.{Option, Some, None, find, if◌then◌else◌}
use Rattle.std.specs.Option.{option_map, option_or}
use Rattle.std.specs.Str.{bytes_eq}
use Rattle.std.proofs.lemmas.List.Folds.{find-append}
use Rattle.pj_name.specs.declared.name.Name.{Name}
use Rattle.pj_name.specs.Name.{same_name}
use Rattle.pj_change.specs.declared.change.Record.{Record}
use Rattle.pj_change.specs.Lawful.{record_of}
use Rattle.pj_change.specs.Union.{union}
use Rattle.pj_change.specs.Unrecord.{without}
use Rattle.pj_machine.specs.declared.channel_name.ChannelName.{ChannelName}
use Rattle.pj_machine.specs.declared.command.Write.{Write}
use Rattle.pj_machine.specs.declared.command.Write.TheVariants as write
use Rattle.pj_machine.specs.declared.journal.Entry.{Entry}
use Rattle.pj_machine.specs.Replay.{Leads}
use Rattle.pj_machine.specs.State.{Channel, State, channel, is_named, list_of, with_channel}
use Rattle.pj_machine.specs.Step.{Steps}
use Rattle.pj_state.specs.LastEntry.{changes, last_from, last_of}
use Rattle.pj_state.proofs.Lists.{list_with_list, list_without_channel}

-- ---- the last entry

-- none of the entries changes the channel
AreQuiet : ChannelName → List Entry → Type 0
AreQuiet name [] = Unit {0}
AreQuiet name (e ∷ entries) = (changes name e.write ≡ false) × AreQuiet name entries

-- the last entry is not before the one that was the last
last_rises : (name : ChannelName) (next last : ℕ) (entries : List Entry) → last < next → last ≤ last_from name next last entries
last_rises name next last [] lt = omega arith
last_rises name next last (e ∷ entries) lt = go (last_rises name (next + 1) next entries (omega arith)) (last_rises name (next + 1) last entries (omega arith)) (changes name e.write) refl
  where
    go : next ≤ last_from name (next + 1) next entries → last ≤ last_from name (next + 1) last entries → (b : Bool) → changes name e.write ≡ b → last ≤ last_from name next last (e ∷ entries)
    go up same true h = rw h (omega arith)
    go up same false h = rw h same

last_below : (name : ChannelName) (next last : ℕ) (entries : List Entry) → last < next → last_from name next last entries < next + length entries
last_below name next last [] lt = omega arith
last_below name next last (e ∷ entries) lt = go (last_below name (next + 1) next entries (omega arith)) (last_below name (next + 1) last entries (omega arith)) (changes name e.write) refl
  where
    go : last_from name (next + 1) next entries < next + 1 + length entries → last_from name (next + 1) last entries < next + 1 + length entries →
        (b : Bool) → changes name e.write ≡ b → last_from name next last (e ∷ entries) < next + length (e ∷ entries)
    go up same true h = rw h (omega arith)
    go up same false h = rw h (omega arith)

quiet_from : (name : ChannelName) (next last : ℕ) (entries : List Entry) → last < next → last_from name next last entries ≡ last → AreQuiet name entries
unfolding AreQuiet
quiet_from name next last [] lt same = tt
quiet_from name next last (e ∷ entries) lt same = go (quiet_from name (next + 1) last entries (omega arith)) (changes name e.write) refl
  where
    go : (last_from name (next + 1) last entries ≡ last → AreQuiet name entries) → (b : Bool) → changes name e.write ≡ b → (changes name e.write ≡ false) × AreQuiet name entries
    go rest true h = absurd (let k = rw h at same in let up = last_rises name (next + 1) next entries (omega arith) in omega arith)
    go rest false h = (h, rest (rw h at same))

last_in_parts : (name : ChannelName) (next last : ℕ) (before more : List Entry) → last_from name next last (before ++ more) ≡ last_from name (next + length before) (last_from name next last before) more
last_in_parts name next last [] more = ap (λ n. last_from name n last more) (omega arith)
last_in_parts name next last (e ∷ before) more =
    last_in_parts name (next + 1) (if changes name e.write then next else last) before more
    ∙ ap (λ n. last_from name n (last_from name (next + 1) (if changes name e.write then next else last) before) more) (omega arith)

-- where the last entry of the channel is that of before, none of those that came changes it
quiet_since : (name : ChannelName) (before more : List Entry) → last_of name (before ++ more) ≡ last_of name before → AreQuiet name more
quiet_since name before more same =
    quiet_from name (1 + length before) (last_of name before) more (last_below name 1 0 before (omega arith)) (sym (last_in_parts name 1 0 before more) ∙ same)

-- ---- one entry

or_none : {X : Type 0} (o : Option X) → option_or o None ≡ o
or_none None = refl
or_none (Some x) = refl

list_with_other : (s : State) (other name : ChannelName) (list : List Record) → bytes_eq other name ≡ false → list_of (with_channel s other list) name ≡ list_of s name
list_with_other s other name list apart =
    let none : find (is_named name) (channel other list ∷ []) ≡ None = rw apart refl in
    ap (λ o. option_map (λ (c : Channel). c.list) o) (find-append (is_named name) s.channels (channel other list ∷ []) ∙ ap (λ o. option_or (find (is_named name) s.channels) o) none ∙ or_none (find (is_named name) s.channels))

list_stays : (s t : State) (w : Write) (name : ChannelName) → Steps s w t → changes name w ≡ false → list_of t name ≡ list_of s name
list_stays s t (write.Put r) name steps quiet = ap (λ (x : State). list_of x name) steps
list_stays s t (write.New other) name steps quiet = ap (λ (x : State). list_of x name) steps ∙ list_with_other s other name [] quiet
list_stays s t (write.Fork from to) name steps quiet = ap (λ (x : State). list_of x name) steps.2 ∙ list_with_other s to name steps.0 quiet
list_stays s t (write.Drop other) name steps quiet = ap (λ (x : State). list_of x name) steps ∙ list_without_channel other s name ∙ ap (λ b. if b then None else list_of s name) quiet
list_stays s t (write.Apply other change) name steps quiet =
    ap (λ (x : State). list_of x name) steps.4 ∙ list_with_list s other (steps.0 ++ steps.1 ∷ []) steps.0 steps.2 name ∙ ap (λ b. if b then Some (steps.0 ++ steps.1 ∷ []) else list_of s name) quiet
list_stays s t (write.Unrecord other change) name steps quiet =
    ap (λ (x : State). list_of x name) steps.2 ∙ list_with_list s other (without steps.0 change) steps.0 steps.1 name ∙ ap (λ b. if b then Some (without steps.0 change) else list_of s name) quiet
list_stays s t (write.Uproot other change) name steps quiet =
    ap (λ (x : State). list_of x name) steps.4 ∙ list_with_list s other steps.1 steps.0 steps.2 name ∙ ap (λ b. if b then Some steps.1 else list_of s name) quiet
list_stays s t (write.Pull other from) name steps quiet =
    ap (λ (x : State). list_of x name) steps.4 ∙ list_with_list s other (union steps.0 steps.1) steps.0 steps.2 name ∙ ap (λ b. if b then Some (union steps.0 steps.1) else list_of s name) quiet

record_stays : (s t : State) (w : Write) (name : Name) (r : Record) → Steps s w t → record_of s.store name ≡ Some r → record_of t.store name ≡ Some r
record_stays s t (write.Put q) name r steps there =
    ap (λ (x : State). record_of x.store name) steps ∙ find-append (λ x. same_name x.name name) s.store (q ∷ []) ∙ ap (λ o. option_or o (record_of (q ∷ []) name)) there
record_stays s t (write.New other) name r steps there = ap (λ (x : State). record_of x.store name) steps ∙ there
record_stays s t (write.Fork from to) name r steps there = ap (λ (x : State). record_of x.store name) steps.2 ∙ there
record_stays s t (write.Drop other) name r steps there = ap (λ (x : State). record_of x.store name) steps ∙ there
record_stays s t (write.Apply other change) name r steps there = ap (λ (x : State). record_of x.store name) steps.4 ∙ there
record_stays s t (write.Unrecord other change) name r steps there = ap (λ (x : State). record_of x.store name) steps.2 ∙ there
record_stays s t (write.Uproot other change) name r steps there = ap (λ (x : State). record_of x.store name) steps.4 ∙ there
record_stays s t (write.Pull other from) name r steps there = ap (λ (x : State). record_of x.store name) steps.4 ∙ there

-- ---- all entries

list_stays_on : (s t : State) (entries : List Entry) (name : ChannelName) → Leads s entries t → AreQuiet name entries → list_of t name ≡ list_of s name
unfolding AreQuiet
list_stays_on s t [] name leads quiet = ap (λ (x : State). list_of x name) leads
list_stays_on s t (e ∷ entries) name leads quiet = list_stays_on leads.0 t entries name leads.2 quiet.1 ∙ list_stays s leads.0 e.write name leads.1 quiet.0

pub record_stays_on : (s t : State) (entries : List Entry) (name : Name) (r : Record) → Leads s entries t → record_of s.store name ≡ Some r → record_of t.store name ≡ Some r
record_stays_on s t [] name r leads there = ap (λ (x : State). record_of x.store name) leads ∙ there
record_stays_on s t (e ∷ entries) name r leads there = record_stays_on leads.0 t entries name r leads.2 (record_stays s leads.0 e.write name r leads.1 there)

-- entries in two parts
pub leads_in_parts : (s t : State) (before more : List Entry) → Leads s (before ++ more) t → (between : State) × Leads s before between × Leads between more t
leads_in_parts s t [] more leads = (s, refl, leads)
leads_in_parts s t (e ∷ before) more leads =
    let rest = leads_in_parts leads.0 t before more leads.2 in
    (rest.0, (leads.0, leads.1, rest.1), rest.2)

-- where the last entry of the channel is that of before, it has the list that it had
pub list_stays_since : (s t : State) (before more : List Entry) (name : ChannelName) → Leads s more t → last_of name (before ++ more) ≡ last_of name before → list_of t name ≡ list_of s name
list_stays_since s t before more name leads same = list_stays_on s t more name leads (quiet_since name before more same)
