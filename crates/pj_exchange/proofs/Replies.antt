-- What each reply of a side says of its list and its store.
use Rattle.std.proofs.Common.{◌≡◌, ◌≢◌, ℕ, ◌≤◌, List, [], ◌∷◌, ◌++◌, length, map, refl, sym, ◌∙◌, ap, subst, inl, inr, true}
use Rattle.std.specs.Prelude.{◌⊎◌, Contains, Option, Some, None, IsSome, MatchOption, Result, Ok, Err}
use Rattle.std.proofs.lemmas.Option.{same_Some}
use Rattle.pj_name.specs.declared.name.Name.{Name}
use Rattle.pj_change.specs.declared.change.Record.{Record}
use Rattle.pj_change.specs.declared.refusals.Applied.{Applied}
use Rattle.pj_change.specs.declared.refusals.Applied.TheVariants as applied
use Rattle.pj_change.specs.declared.refusals.ApplyRefusal.{ApplyRefusal}
use Rattle.pj_change.specs.declared.refusals.ApplyRefusal.TheVariants as apply
use Rattle.pj_change.specs.Apply.{IsApplyAnswer}
use Rattle.pj_change.specs.Lawful.{IsLawful, Follows, is_held, record_of}
use Rattle.pj_change.proofs.LawfulLists.{append_cases, found, held_member}
use Rattle.pj_change.proofs.Members.{uncons, no_member, middle_member}
use Rattle.pj_machine.specs.declared.channel_name.ChannelName.{ChannelName}
use Rattle.pj_machine.specs.declared.command.Command.{Command}
use Rattle.pj_machine.specs.declared.command.Command.TheVariants as command
use Rattle.pj_machine.specs.declared.command.Write.{Write}
use Rattle.pj_machine.specs.declared.command.Write.TheVariants as write
use Rattle.pj_machine.specs.declared.limits.Limits.{Limits}
use Rattle.pj_machine.specs.declared.reply.Refusal.{Refusal}
use Rattle.pj_machine.specs.declared.reply.Refusal.TheVariants as refusal
use Rattle.pj_machine.specs.declared.reply.Reply.{Reply}
use Rattle.pj_machine.specs.declared.reply.Reply.TheVariants.{Done, Named, Already, AlreadyNamed, Body, No}
use Rattle.pj_machine.specs.Answer.{HasText, HasOtherText, IsMalformed, IsStoreFull, PutsChange, Writes, AsApplied}
use Rattle.pj_machine.specs.Listings.{log_text}
use Rattle.pj_machine.specs.Outcome.{Outcome, enters, Unless}
use Rattle.pj_machine.specs.Sound.{IsSound}
use Rattle.pj_machine.specs.State.{State, list_of}
use Rattle.pj_machine.proofs.OneRecord.{record_of_text}
use Rattle.pj_machine.proofs.SoundStates.{AreStored, list_lawful, list_stored}
use Rattle.pj_exchange.proofs.SideSteps.{Stepped}
use Rattle.pj_exchange.proofs.Steps.{made_list, changed_list}

-- ---- outcomes

-- what was looked up and is there
pub given : {X : Type 0} (o : Option X) (A : Type 0) (B : X → Type 0) → MatchOption o A B → (A → ⊥) → (x : X) × (o ≡ Some x) × B x
given None A B h never = absurd (never h)
given (Some x) A B h never = (x, refl, h)

-- and what is not there
missing : {X : Type 0} (o : Option X) (A : Type 0) (B : X → Type 0) → MatchOption o A B → ((x : X) → B x → ⊥) → o ≡ None
missing None A B h never = refl
missing (Some x) A B h never = absurd (never x h)

-- what is not there is none
none_is : {X : Type 0} (o : Option X) → (IsSome o → ⊥) → o ≡ None
none_is None never = refl
none_is (Some x) never = absurd (never refl)

-- the cause of a reply that was not given did not stand
pub passes : (cause : Type 0) (other : Reply) (rest : Outcome → Type 0) (o : Outcome) → Unless cause other rest o → (o.reply ≢ other) → (cause → ⊥) × rest o
passes cause other rest o (inl a) never = absurd (never (ap (λ (p : Outcome). p.reply) a.1))
passes cause other rest o (inr a) never = a

-- what follows from no write, and from a write
unchanged : {W : Type 0} (o : Option W) (A : Type 0) (B : W → Type 0) → o ≡ None → MatchOption o A B → A
unchanged None A B e h = h
unchanged (Some w) A B e h = absurd (cc)

-- what follows from a write, or from what else is there
pub there_so : {W : Type 0} (o : Option W) (A : Type 0) (B : W → Type 0) (w : W) → o ≡ Some w → MatchOption o A B → B w
there_so None A B w e h = absurd (cc)
there_so {W} (Some v) A B w e h = (let same : v ≡ w = cc in subst B same h)

-- ---- the store

-- a stored record is found under its name
pub member_found : (s : State) → IsSound s → (r : Record) → Contains s.store r → record_of s.store r.name ≡ Some r
member_found s sound r m =
    let f = found s.store r.name (held_member s.store r.name r (record { member = m; named = refl })) in
    let same : f.it ≡ r = record_of_text f.it r (sound.one_text f.it r f.record_is.member m f.record_is.named) in
    f.is ∙ ap Some same

-- and so is one that is stored under a new name
pushed_found : (store : List Record) (r : Record) → ((q : Record) → Contains store q → q.name ≡ r.name → ⊥) → record_of (store ++ r ∷ []) r.name ≡ Some r
pushed_found store r new =
    let f = found (store ++ r ∷ []) r.name (held_member (store ++ r ∷ []) r.name r (record { member = middle_member store [] r; named = refl })) in
    let same : f.it ≡ r = elim (append_cases store (r ∷ []) f.it f.record_is.member) [
      | inl m ↦ absurd (new f.it m f.record_is.named)
      | inr m ↦ elim (uncons r [] f.it m) [ inl e ↦ sym e | inr k ↦ absurd (no_member f.it k) ]
    ] in
    f.is ∙ ap Some same

-- the text is that of a record of the store
pub record IsStored (store : List Record) (text : List ℕ) : Type 0 where
  pub it : Record
  pub text_is : it.text ≡ text
  pub there : record_of store it.name ≡ Some it

-- the names of records
abbrev pub names_of : List Record → List Name
names_of = map (λ r. r.name)

module _ (limits : Limits) (c : ChannelName) (store : List Record) (old new : Option (List Record)) where
  -- it was answered so
  abbrev Says : Command → Reply → Type 0
  Says x reply = Stepped limits c store old x reply new

  -- ---- `log` and `new`

  -- the channel is there, and its list is lawful and stored
  pub record IsLogged (body : List ℕ) : Type 0 where
    pub list : List Record
    pub old_is : old ≡ Some list
    pub new_is : new ≡ Some list
    pub body_is : body ≡ log_text (names_of list)
    pub lawful : IsLawful list
    pub stored : AreStored store list

  -- the reply to `log` says the list
  pub logged : (body : List ℕ) → Says (command.Log c) (Body body) → IsLogged body
  logged body l =
      let s : State = l.state in
      let f = given (list_of s c) _ _ l.answers (λ e. let k : Body body ≡ No refusal.Channel = ap (λ (o : Outcome). o.reply) e in absurd (cc)) in
      let none : l.entered ≡ None = ap (λ (o : Outcome). o.entered) f.2 in
      let told : Body body ≡ Body (log_text (names_of f.0)) = ap (λ (o : Outcome). o.reply) f.2 in
      let old_is : old ≡ Some f.0 = sym l.old_is ∙ f.1 in
      record {
        list = f.0;
        old_is = old_is;
        new_is = unchanged l.entered _ _ none l.then ∙ old_is;
        body_is = (let k : body ≡ log_text (names_of f.0) = cc in k);
        lawful = list_lawful s c f.0 l.sound f.1;
        stored = λ r m. l.keeps r.name r (list_stored s c f.0 l.sound f.1 r m);
      }

  -- or that the channel is not there
  pub absent : Says (command.Log c) (No refusal.Channel) → (old ≡ None) × (new ≡ None)
  absent l =
      let s : State = l.state in
      let is : list_of s c ≡ None = missing (list_of s c) _ _ l.answers
      (λ list e. let k : No refusal.Channel ≡ Body (log_text (names_of list)) = ap (λ (o : Outcome). o.reply) e in absurd (cc)) in
      let none : l.entered ≡ None = ap (λ (o : Outcome). o.entered) (unchanged (list_of s c) _ _ is l.answers) in
      let old_is : old ≡ None = sym l.old_is ∙ is in
      (old_is, unchanged l.entered _ _ none l.then ∙ old_is)

  -- no reply but the first is so in a row of refusals
  done_is : (w : Write) (entered : Option Write) (entries : ℕ) → Writes limits entries Done w (record { reply = Done; entered = entered }) → entered ≡ Some w
  done_is w entered entries h =
      ap (λ (o : Outcome). o.entered)
      (passes (limits.entries ≤ entries) (No refusal.FullJournal) (λ o. o ≡ enters Done w) (record { reply = Done; entered = entered }) h (λ k. cc k)).1

  -- a channel that was made has no change
  pub made : Says (command.New c) Done → (old ≡ None) × (new ≡ Some [])
  made l =
      let s : State = l.state in
      let o : Outcome = record { reply = Done; entered = l.entered } in
      let n : ℕ = length l.journal in
      let w = write.New c in
      let a = passes (IsSome (list_of s c)) (No refusal.Taken)
      (Unless (limits.channels ≤ length s.channels) (No refusal.FullChannels) (Writes limits n Done w)) o l.answers (λ k. cc k) in
      let b = passes (limits.channels ≤ length s.channels) (No refusal.FullChannels) (Writes limits n Done w) o a.1 (λ k. cc k) in
      let t = there_so l.entered _ _ w (done_is w l.entered n b.1) l.then in
      let none = none_is (list_of s c) a.0 in
      (sym l.old_is ∙ none, sym t.2 ∙ ap (λ x. list_of x c) t.1 ∙ made_list s c [] none)

  -- ---- `get` and `put`

  -- the text is that of the record of the name
  pub record IsGot (name : Name) (text : List ℕ) : Type 0 where
    pub it : Record
    pub there : record_of store name ≡ Some it
    pub text_is : it.text ≡ text
    pub same : new ≡ old

  -- the reply to `get` says the text of the change
  pub got_text : (name : Name) (text : List ℕ) → Says (command.Get name) (Body text) → IsGot name text
  got_text name text l =
      let f = given (record_of l.state.store name) _ _ l.answers
      (λ e. let k : Body text ≡ No refusal.Change = ap (λ (o : Outcome). o.reply) e in absurd (cc)) in
      let none : l.entered ≡ None = ap (λ (o : Outcome). o.entered) f.2 in
      let told : Body text ≡ Body f.0.text = ap (λ (o : Outcome). o.reply) f.2 in
      record {
        it = f.0;
        there = l.keeps name f.0 f.1;
        text_is = (let k : f.0.text ≡ text = cc in k);
        same = unchanged l.entered _ _ none l.then;
      }

  -- the text is stored, and the list stays
  pub record IsPut (text : List ℕ) : Type 0 where
    pub stored : IsStored store text
    pub same : new ≡ old

  module _ (text : List ℕ) where
    -- which change it is, where the text is one
    is_change : (reply : Reply) → (reply ≢ No refusal.Malformed) → (l : Says (command.Put text) reply) →
        (r : Record) × (r.text ≡ text) × PutsChange limits l.state (length l.journal) r (record { reply = reply; entered = l.entered })
    is_change reply never l = elim l.answers [
      | inl a ↦ absurd (never (ap (λ (o : Outcome). o.reply) a.1))
      | inr a ↦ a
    ]

    -- a text that was there before
    pub put_before : (name : Name) → Says (command.Put text) (AlreadyNamed name) → IsPut text
    put_before name l =
        let r = is_change (AlreadyNamed name) (λ k. cc k) l in
        let s : State = l.state in
        let n : ℕ = length l.journal in
        elim r.2 [
          | inl a ↦ record {
            stored = record {
              it = a.0.stored;
              text_is = a.0.same ∙ r.1;
              there = l.keeps a.0.stored.name a.0.stored (member_found s l.sound a.0.stored a.0.member);
            };
            same = unchanged l.entered _ _ (ap (λ (o : Outcome). o.entered) a.1) l.then;
          }
          | inr a ↦ absurd (
              let o : Outcome = record { reply = AlreadyNamed name; entered = l.entered } in
              let last : Outcome → Type 0 = Writes limits n (Named r.0.name) (write.Put r.0) in
              let b = passes (HasOtherText s r.0) (No refusal.Clash) (Unless (IsStoreFull limits s r.0.text) (No refusal.FullStore) last) o a.1 (λ k. cc k) in
              let d = passes (IsStoreFull limits s r.0.text) (No refusal.FullStore) last o b.1 (λ k. cc k) in
              let e = passes (limits.entries ≤ n) (No refusal.FullJournal) (λ o. o ≡ enters (Named r.0.name) (write.Put r.0)) o d.1 (λ k. cc k) in
              let k : AlreadyNamed name ≡ Named r.0.name = ap (λ (o : Outcome). o.reply) e.1 in cc)
        ]

    -- a text that is stored now
    pub put_now : (name : Name) → Says (command.Put text) (Named name) → IsPut text
    put_now name l =
        let r = is_change (Named name) (λ k. cc k) l in
        let s : State = l.state in
        let n : ℕ = length l.journal in
        let o : Outcome = record { reply = Named name; entered = l.entered } in
        let w = write.Put r.0 in
        let last : Outcome → Type 0 = Writes limits n (Named r.0.name) w in
        let rest : Outcome → Type 0 = Unless (IsStoreFull limits s r.0.text) (No refusal.FullStore) last in
        let a = passes (HasText s r.0.text) (AlreadyNamed r.0.name) (Unless (HasOtherText s r.0) (No refusal.Clash) rest) o r.2 (λ k. cc k) in
        let b = passes (HasOtherText s r.0) (No refusal.Clash) rest o a.1 (λ k. cc k) in
        let d = passes (IsStoreFull limits s r.0.text) (No refusal.FullStore) last o b.1 (λ k. cc k) in
        let e = passes (limits.entries ≤ n) (No refusal.FullJournal) (λ o. o ≡ enters (Named r.0.name) w) o d.1 (λ k. cc k) in
        let t = there_so l.entered _ _ w (ap (λ (o : Outcome). o.entered) e.1) l.then in
        let other : (q : Record) → Contains s.store q → q.name ≡ r.0.name → ⊥ = λ q m named.
        b.0 (record { stored = q; member = m; named = named; other = λ same. a.0 (record { stored = q; member = m; same = same }) }) in
        record {
          stored = record {
            it = r.0;
            text_is = r.1;
            there = t.3 r.0.name r.0 (ap (λ (x : State). record_of x.store r.0.name) t.1 ∙ pushed_found s.store r.0 other);
          };
          same = sym t.2 ∙ ap (λ x. list_of x c) t.1 ∙ l.old_is;
        }

    -- what no change has is malformed
    pub malformed : Says (command.Put text) (No refusal.Malformed) → IsMalformed text
    malformed l = elim l.answers [
      | inl a ↦ a.0
      | inr a ↦ absurd (
          let r : Record = a.0 in
          let s : State = l.state in
          let n : ℕ = length l.journal in
          let o : Outcome = record { reply = No refusal.Malformed; entered = l.entered } in
          let last : Outcome → Type 0 = Writes limits n (Named r.name) (write.Put r) in
          let rest : Outcome → Type 0 = Unless (IsStoreFull limits s r.text) (No refusal.FullStore) last in
          let b = passes (HasText s r.text) (AlreadyNamed r.name) (Unless (HasOtherText s r) (No refusal.Clash) rest) o a.2 (λ k. cc k) in
          let d = passes (HasOtherText s r) (No refusal.Clash) rest o b.1 (λ k. let e : refusal.Malformed ≡ refusal.Clash = cc in cc e) in
          let e = passes (IsStoreFull limits s r.text) (No refusal.FullStore) last o d.1 (λ k. let e : refusal.Malformed ≡ refusal.FullStore = cc in cc e) in
          let f = passes (limits.entries ≤ n) (No refusal.FullJournal) (λ o. o ≡ enters (Named r.name) (write.Put r)) o e.1
          (λ k. let e : refusal.Malformed ≡ refusal.FullJournal = cc in cc e) in
          let k : No refusal.Malformed ≡ Named r.name = ap (λ (o : Outcome). o.reply) f.1 in cc)
    ]

  -- ---- `apply`

  module _ (name : Name) where
    -- the list and the record to which it was answered
    record IsAsked (reply : Reply) (entered : Option Write) (entries : ℕ) : Type 0 where
      list : List Record
      it : Record
      old_is : old ≡ Some list
      there : record_of store name ≡ Some it
      result : Result (Applied (List Record)) ApplyRefusal
      answer : IsApplyAnswer list it result
      outcome : AsApplied limits entries (write.Apply c name) result (record { reply = reply; entered = entered })

    -- it is one list and one record that it was answered for
    asked : (reply : Reply) → (reply ≢ No refusal.Channel) → (reply ≢ No refusal.Change) → (l : Says (command.Apply c name) reply) →
        IsAsked reply l.entered (length l.journal)
    asked reply no_channel no_change l =
        let f = given (list_of l.state c) _ _ l.answers (λ e. no_channel (ap (λ (o : Outcome). o.reply) e)) in
        let g = given (record_of l.state.store name) _ _ f.2 (λ e. no_change (ap (λ (o : Outcome). o.reply) e)) in
        record {
          list = f.0;
          it = g.0;
          old_is = sym l.old_is ∙ f.1;
          there = l.keeps name g.0 g.1;
          result = g.2.0;
          answer = g.2.1;
          outcome = g.2.2;
        }

    -- the change stands at the end of the list
    pub record IsApplied : Type 0 where
      pub list : List Record
      pub it : Record
      pub old_is : old ≡ Some list
      pub there : record_of store name ≡ Some it
      pub new_is : new ≡ Some (list ++ it ∷ [])

    -- the reply to what was entered goes with the write
    entered_is : (entered : Option Write) (entries : ℕ) (list : List Record) (it : Record) (result : Result (Applied (List Record)) ApplyRefusal) →
        AsApplied limits entries (write.Apply c name) result (record { reply = Done; entered = entered }) → entered ≡ Some (write.Apply c name)
    entered_is entered entries list it (Ok (applied.New after)) h = done_is (write.Apply c name) entered entries h
    entered_is entered entries list it (Ok applied.Already) h = absurd (let k : Done ≡ Already = ap (λ (o : Outcome). o.reply) h in cc)
    entered_is entered entries list it (Err (apply.Needs need)) h = absurd (let k : Done ≡ No (refusal.Needs need) = ap (λ (o : Outcome). o.reply) h in cc)
    entered_is entered entries list it (Err (apply.Context n)) h = absurd (let k : Done ≡ No (refusal.Context n) = ap (λ (o : Outcome). o.reply) h in cc)
    entered_is entered entries list it (Err apply.Memory) h = absurd h

    -- a change that was applied now
    pub applied_now : Says (command.Apply c name) Done → IsApplied
    applied_now l =
        let a = asked Done (λ k. cc k) (λ k. cc k) l in
        let t = there_so l.entered _ _ (write.Apply c name) (entered_is l.entered (length l.journal) a.list a.it a.result a.outcome) l.then in
        let steps = t.1 in
        let list_is = same_Some steps.0 a.list (sym steps.2 ∙ l.old_is ∙ a.old_is) in
        let it_is = same_Some steps.1 a.it (sym (l.keeps name steps.1 steps.3) ∙ a.there) in
        record {
          list = a.list;
          it = a.it;
          old_is = a.old_is;
          there = a.there;
          new_is = sym t.2 ∙ ap (λ x. list_of x c) steps.4 ∙ changed_list l.state c (steps.0 ++ steps.1 ∷ []) steps.0 steps.2 ∙
              (λ i. Some (list_is i ++ it_is i ∷ []));
        }

    -- the list holds the change already
    pub record IsAlready : Type 0 where
      pub list : List Record
      pub it : Record
      pub old_is : old ≡ Some list
      pub there : record_of store name ≡ Some it
      pub held : is_held list it.name ≡ true

    -- the reply to what was there goes with a list that holds it
    already_is : (entered : Option Write) (entries : ℕ) (list : List Record) (it : Record) (result : Result (Applied (List Record)) ApplyRefusal) →
        IsApplyAnswer list it result →
        AsApplied limits entries (write.Apply c name) result (record { reply = Already; entered = entered }) → is_held list it.name ≡ true
    already_is entered entries list it (Ok applied.Already) a h = a.already.only refl
    already_is entered entries list it (Ok (applied.New after)) a h = absurd (
        let o : Outcome = record { reply = Already; entered = entered } in
        let e = passes (limits.entries ≤ entries) (No refusal.FullJournal) (λ o. o ≡ enters Done (write.Apply c name)) o h (λ k. cc k) in
        let k : Already ≡ Done = ap (λ (o : Outcome). o.reply) e.1 in cc)
    already_is entered entries list it (Err (apply.Needs need)) a h = absurd (let k : Already ≡ No (refusal.Needs need) = ap (λ (o : Outcome). o.reply) h in cc)
    already_is entered entries list it (Err (apply.Context n)) a h = absurd (let k : Already ≡ No (refusal.Context n) = ap (λ (o : Outcome). o.reply) h in cc)
    already_is entered entries list it (Err apply.Memory) a h = absurd h

    -- a change that the list held before
    pub applied_before : Says (command.Apply c name) Already → IsAlready
    applied_before l =
        let a = asked Already (λ k. cc k) (λ k. cc k) l in
        record {
          list = a.list;
          it = a.it;
          old_is = a.old_is;
          there = a.there;
          held = already_is l.entered (length l.journal) a.list a.it a.result a.answer a.outcome;
        }

    -- a change that does not follow the list
    pub record IsDeclined : Type 0 where
      pub list : List Record
      pub it : Record
      pub old_is : old ≡ Some list
      pub there : record_of store name ≡ Some it
      pub unfit : Follows list it → ⊥

    -- a need is not there, or a context does not hold
    abbrev pub IsOfChange : Refusal → Type 0
    IsOfChange why = ((need : Name) × (why ≡ refusal.Needs need)) ⊎ ((k : ℕ) × (why ≡ refusal.Context k))

    -- a refusal for what the change is, is no other
    not_so : (why : Refusal) → IsOfChange why → (other : Refusal) → ((need : Name) → other ≢ refusal.Needs need) → ((k : ℕ) → other ≢ refusal.Context k) →
        No why ≢ No other
    not_so why (inl of) other no_need no_context e = (let k : why ≡ other = cc in no_need of.0 (sym k ∙ of.1))
    not_so why (inr of) other no_need no_context e = (let k : why ≡ other = cc in no_context of.0 (sym k ∙ of.1))

    -- it goes with a change that does not follow the list
    unfits : (why : Refusal) → IsOfChange why → (entered : Option Write) (entries : ℕ) (list : List Record) (it : Record)
        (result : Result (Applied (List Record)) ApplyRefusal) →
        IsApplyAnswer list it result → AsApplied limits entries (write.Apply c name) result (record { reply = No why; entered = entered }) → Follows list it → ⊥
    unfits why of entered entries list it (Ok applied.Already) a h follows = absurd (let k : No why ≡ Already = ap (λ (o : Outcome). o.reply) h in cc)
    unfits why of entered entries list it (Ok (applied.New after)) a h follows = absurd (
        let o : Outcome = record { reply = No why; entered = entered } in
        let e = passes (limits.entries ≤ entries) (No refusal.FullJournal) (λ o. o ≡ enters Done (write.Apply c name)) o h
        (not_so why of refusal.FullJournal (λ need k. cc k) (λ n k. cc k)) in
        let k : No why ≡ Done = ap (λ (o : Outcome). o.reply) e.1 in cc)
    unfits why of entered entries list it (Err (apply.Needs need)) a h follows = elim
        ((a.new (list ++ it ∷ [])).always (follows, refl)) [ inl e ↦ absurd (cc) | inr e ↦ absurd (cc) ]
    unfits why of entered entries list it (Err (apply.Context n)) a h follows = elim
        ((a.new (list ++ it ∷ [])).always (follows, refl)) [ inl e ↦ absurd (cc) | inr e ↦ absurd (cc) ]
    unfits why of entered entries list it (Err apply.Memory) a h follows = h

    -- a change that was refused for what it is
    pub declined : (why : Refusal) → IsOfChange why → Says (command.Apply c name) (No why) → IsDeclined
    declined why of l =
        let a = asked (No why) (not_so why of refusal.Channel (λ need k. cc k) (λ n k. cc k)) (not_so why of refusal.Change (λ need k. cc k) (λ n k. cc k)) l in
        record {
          list = a.list;
          it = a.it;
          old_is = a.old_is;
          there = a.there;
          unfit = unfits why of l.entered (length l.journal) a.list a.it a.result a.answer a.outcome;
        }
