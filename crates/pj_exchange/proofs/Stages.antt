-- What an exchange has reached in each phase.
use Rattle.std.proofs.Common.{◌≡◌, ℕ, List, [], ◌∷◌, ◌++◌, refl, sym, ◌∙◌, ap, subst, inl, inr, true, false, append_assoc, append-nil, Bool}
use Rattle.std.specs.Prelude.{Option, Some}
use Rattle.std.proofs.lemmas.Option.{same_Some}
use Rattle.pj_name.specs.declared.name.Name.{Name}
use Rattle.pj_name.specs.Name.{name_of}
use Rattle.pj_change.specs.declared.change.Record.{Record}
use Rattle.pj_change.specs.Lawful.{IsLawful, is_held, record_of}
use Rattle.pj_change.specs.Union.{union}
use Rattle.pj_change.proofs.DistinctRecords.{lawful_distinct}
use Rattle.pj_change.proofs.Members.{middle_member, moved}
use Rattle.pj_change.proofs.PickedMembers.{passed}
use Rattle.pj_machine.specs.declared.channel_name.ChannelName.{ChannelName}
use Rattle.pj_machine.specs.declared.command.Command.{Command}
use Rattle.pj_machine.specs.declared.command.Command.TheVariants as command
use Rattle.pj_machine.specs.declared.limits.Limits.{Limits}
use Rattle.pj_machine.specs.declared.reply.Numbered.{Numbered}
use Rattle.pj_machine.specs.declared.reply.Numbered.TheVariants.{At}
use Rattle.pj_machine.specs.declared.reply.Reply.{Reply}
use Rattle.pj_machine.specs.declared.reply.Reply.TheVariants.{Done, Named, Already, AlreadyNamed, Body}
use Rattle.pj_machine.proofs.OneRecord.{record_of_text}
use Rattle.pj_machine.proofs.SoundStates.{AreStored, record_named}
use Rattle.pj_exchange.specs.Events.{Here, There}
use Rattle.pj_exchange.specs.Phases.{Phase, Asking, Making, Listing, Getting, Storing, Applying, Giving, Sending, Offering, Over, Says, SaysStored, SaysApplied, Goes, to_get, to_give}
use Rattle.pj_exchange.proofs.Lacking.{lacking, still_lacking}
use Rattle.pj_exchange.proofs.Replies.{names_of, IsStored, IsGot, IsPut, got_text, put_now, put_before, applied_now, applied_before}
use Rattle.pj_exchange.proofs.SideSteps.{Links}

-- a test has one answer
not_both : (b : Bool) → b ≡ true → b ≡ false → ⊥
not_both true e f = cc f
not_both false e f = cc e

-- ---- one side

module _ (limits : Limits) (c : ChannelName) (store : List Record) (old new : Option (List Record)) (x : Command) (r : Numbered)
    (link : Links limits c store old x r new) where
  -- the link of a command and a reply
  pub link_of : (y : Command) (place : ℕ) (reply : Reply) → x ≡ y → r ≡ At place reply → Links limits c store old y (At place reply) new
  link_of y place reply is told = subst (λ n. Links limits c store old y n new) told (subst (λ z. Links limits c store old z r new) is link)

  -- a text that was got
  pub is_got : (n : Name) (text : List ℕ) → x ≡ command.Get n → Says (Body text) r → IsGot limits c store old new n text
  is_got n text is says = got_text limits c store old new n text (link_of (command.Get n) says.0 (Body text) is says.1)

  -- a text that was put
  pub is_put : (text : List ℕ) → x ≡ command.Put text → SaysStored text r → IsPut limits c store old new text
  is_put text is (inl says) = put_now limits c store old new text (name_of text) (link_of (command.Put text) says.0 (Named (name_of text)) is says.1)
  is_put text is (inr says) = put_before limits c store old new text (name_of text) (link_of (command.Put text) says.0 (AlreadyNamed (name_of text)) is says.1)

  -- a change that was applied to a list that does not hold it
  pub is_applied : (n : Name) (list : List Record) (q : Record) → x ≡ command.Apply c n → SaysApplied r → old ≡ Some list → record_of store n ≡ Some q →
      is_held list q.name ≡ false →
      new ≡ Some (list ++ q ∷ [])
  is_applied n list q is (inl says) had stored fresh =
      let a = applied_now limits c store old new n (link_of (command.Apply c n) says.0 Done is says.1) in
      let lists = same_Some a.list list (sym a.old_is ∙ had) in
      let same = same_Some a.it q (sym a.there ∙ stored) in
      a.new_is ∙ (λ i. Some (lists i ++ same i ∷ []))
  is_applied n list q is (inr says) had stored fresh = absurd (
      let a = applied_before limits c store old new n (link_of (command.Apply c n) says.0 Already is says.1) in
      let lists = same_Some a.list list (sym a.old_is ∙ had) in
      let same = same_Some a.it q (sym a.there ∙ stored) in
      not_both (is_held list q.name) ((λ i. is_held (sym lists i) (sym same i).name) ∙ a.held) fresh)

-- the stored record of a text that another store has too
one_text_of : (store : List Record) (text : List ℕ) (q : Record) → IsStored store text → q.text ≡ text → record_of store q.name ≡ Some q
one_text_of store text q s is =
    let same : s.it ≡ q = record_of_text s.it q (s.text_is ∙ sym is) in
    subst (λ z. record_of store z.name ≡ Some z) same s.there

-- ---- one list that takes what it lacks of another

-- Of the second list these changes were taken already, and these names are still to be taken; the first list has grown by the former.
pub record Taking (mine theirs : List Record) (old : Option (List Record)) (names : List Name) : Type 0 where
  pub done : List Record
  pub todo : List Record
  pub old_is : old ≡ Some (mine ++ done)
  pub parts : lacking mine theirs ≡ done ++ todo
  pub names_are : names ≡ names_of todo

-- the first of those that are still to be taken
pub record TakesNext (mine theirs done : List Record) (n : Name) (ns : List Name) : Type 0 where
  pub it : Record
  pub rest : List Record
  pub parts : lacking mine theirs ≡ done ++ it ∷ rest
  pub named : it.name ≡ n
  pub names_are : ns ≡ names_of rest

-- where names are left, so are their changes
pub next_of : (mine theirs : List Record) (old : Option (List Record)) (n : Name) (ns : List Name) → (t : Taking mine theirs old (n ∷ ns)) →
    TakesNext mine theirs t.done n ns
next_of mine theirs old n ns t = go t.todo t.parts t.names_are
  where
    go : (todo : List Record) → lacking mine theirs ≡ t.done ++ todo → n ∷ ns ≡ names_of todo → TakesNext mine theirs t.done n ns
    go [] parts names = absurd (cc)
    go (r ∷ rest) parts names = record {
      it = r;
      rest = rest;
      parts = parts;
      named = (let k : r.name ≡ n = cc in k);
      names_are = (let k : ns ≡ names_of rest = cc in k);
    }

module _ (mine theirs : List Record) where
  -- nothing is taken yet
  pub taking_begins : (old : Option (List Record)) → old ≡ Some mine → Taking mine theirs old (names_of (lacking mine theirs))
  taking_begins old is = record {
    done = [];
    todo = lacking mine theirs;
    old_is = is ∙ ap Some (sym (append-nil mine));
    parts = refl;
    names_are = refl;
  }

  -- all is taken
  pub taking_ends : (old : Option (List Record)) → Taking mine theirs old [] → old ≡ Some (union mine theirs)
  taking_ends old t = t.old_is ∙ ap (λ l. Some (mine ++ l)) (go t.todo t.parts t.names_are)
    where
      go : (todo : List Record) → lacking mine theirs ≡ t.done ++ todo → [] ≡ names_of todo → t.done ≡ lacking mine theirs
      go [] parts names = sym (parts ∙ append-nil t.done)
      go (r ∷ todo) parts names = absurd (cc)

  -- the list stays
  pub taking_stays : (old new : Option (List Record)) (names : List Name) → new ≡ old → Taking mine theirs old names → Taking mine theirs new names
  taking_stays old new names same t = record { done = t.done; todo = t.todo; old_is = same ∙ t.old_is; parts = t.parts; names_are = t.names_are }

  module _ (limits : Limits) (c : ChannelName) (own other : List Record) (lawful : IsLawful theirs) (stored : AreStored other theirs) where
    -- the change that is still to be taken first is the one of its name in the other store
    pub next_stored : (done : List Record) (n : Name) (ns : List Name) (t : TakesNext mine theirs done n ns) (q : Record) → record_of other n ≡ Some q →
        q ≡ t.it
    next_stored done n ns t q there =
        let member = (passed _ theirs t.it (moved t.it (sym t.parts) (middle_member done t.rest t.it))).member in
        let is : record_of other n ≡ Some t.it = ap (record_of other) (sym t.named) ∙ stored t.it member in
        same_Some q t.it (sym there ∙ is)

    -- one more is taken
    pub takes : (old new : Option (List Record)) (x : Command) (r : Numbered) → Links limits c own old x r new → (n : Name) (ns : List Name) (q : Record) →
        x ≡ command.Apply c n → SaysApplied r → record_of own n ≡ Some q → record_of other n ≡ Some q → Taking mine theirs old (n ∷ ns) →
        Taking mine theirs new ns
    takes old new x r link n ns q is says here there t =
        let next = next_of mine theirs old n ns t in
        let same = next_stored t.done n ns next q there in
        let fresh : is_held (mine ++ t.done) q.name ≡ false =
        ap (λ (z : Record). is_held (mine ++ t.done) z.name) same ∙ still_lacking mine theirs
        (lawful_distinct theirs lawful) t.done next.it next.rest next.parts in
        let grown = is_applied limits c own old new x r link n (mine ++ t.done) q is says t.old_is here fresh in
        record {
          done = t.done ++ next.it ∷ [];
          todo = next.rest;
          old_is = grown ∙ ap Some (append_assoc mine t.done (q ∷ []) ∙ ap (λ z. mine ++ (t.done ++ z ∷ [])) same);
          parts = next.parts ∙ sym (append_assoc t.done (next.it ∷ []) next.rest);
          names_are = next.names_are;
        }

-- ---- both sides

module _ (limits others : Limits) (c : ChannelName) (own other mine theirs : List Record) where
  -- the changes that both had at first
  pub record IsBegun : Type 0 where
    pub lawful_mine : IsLawful mine
    pub lawful_theirs : IsLawful theirs
    pub stored_mine : AreStored own mine
    pub stored_theirs : AreStored other theirs

  -- here the changes are taken, and there nothing has changed yet
  pub record IsTaking (here there : Option (List Record)) (names offer : List Name) : Type 0 where
    pub taking : Taking mine theirs here names
    pub there_is : there ≡ Some theirs
    pub offer_is : offer ≡ names_of (lacking theirs mine)

  -- here all are taken, and there the changes are given
  pub record IsGiving (here there : Option (List Record)) (names : List Name) : Type 0 where
    pub here_is : here ≡ Some (union mine theirs)
    pub giving : Taking theirs mine there names

  -- the text is of the change of this name of the store
  pub record IsTextOf (store : List Record) (n : Name) (text : List ℕ) : Type 0 where
    pub it : Record
    pub there : record_of store n ≡ Some it
    pub text_is : it.text ≡ text

  -- both stores have one change under this name
  pub record IsInBoth (n : Name) : Type 0 where
    pub it : Record
    pub in_own : record_of own n ≡ Some it
    pub in_other : record_of other n ≡ Some it

  -- what both sides have reached in a phase behind both logs
  abbrev pub Stands : Phase → Option (List Record) → Option (List Record) → Type 0
  Stands (Getting n ns offer) here there = IsTaking here there (n ∷ ns) offer
  Stands (Storing n text ns offer) here there = IsTaking here there (n ∷ ns) offer × IsTextOf other n text
  Stands (Applying n ns offer) here there = IsTaking here there (n ∷ ns) offer × IsInBoth n
  Stands (Giving n ns) here there = IsGiving here there (n ∷ ns)
  Stands (Sending n text ns) here there = IsGiving here there (n ∷ ns) × IsTextOf own n text
  Stands (Offering n ns) here there = IsGiving here there (n ∷ ns) × IsInBoth n
  Stands Over here there = (here ≡ Some (union mine theirs)) × (there ≡ Some (union theirs mine))
  Stands phase here there = ⊥

  -- all changes to be taken are taken
  to_give_stands : (here there : Option (List Record)) (names : List Name) → IsGiving here there names → Stands (to_give names) here there
  to_give_stands here there [] g = (g.here_is, taking_ends theirs mine there g.giving)
  to_give_stands here there (n ∷ ns) g = g

  -- and before that
  to_get_stands : (here there : Option (List Record)) (names offer : List Name) → IsTaking here there names offer → Stands (to_get names offer) here there
  to_get_stands here there [] offer t =
      to_give_stands here there offer (record {
        here_is = taking_ends mine theirs here t.taking;
        giving = subst (λ l. Taking theirs mine there l) (sym t.offer_is) (taking_begins theirs mine there t.there_is);
      })
  to_get_stands here there (n ∷ ns) offer t = t

  -- both logs are read
  pub listed_stands : (here there : Option (List Record)) → here ≡ Some mine → there ≡ Some theirs →
      Stands (to_get (names_of (lacking mine theirs)) (names_of (lacking theirs mine))) here there
  listed_stands here there h t =
      to_get_stands here there (names_of (lacking mine theirs)) (names_of (lacking theirs mine))
      (record { taking = taking_begins mine theirs here h; there_is = t; offer_is = refl })

  module _ (begun : IsBegun) where
    -- the text came from one store, and stands in the other: it is of one change
    in_one : (from to : List Record) (n : Name) (text : List ℕ) → IsTextOf from n text → IsStored to text →
        (q : Record) × (record_of from n ≡ Some q) × (record_of to n ≡ Some q)
    in_one from to n text t s =
        let named = record_named from n t.it t.there in
        (t.it, t.there, subst (λ m. record_of to m ≡ Some t.it) named (one_text_of to text t.it s t.text_is))

    -- an event that was answered here
    pub here_goes : (phase : Phase) (x : Command) (r : Numbered) (next : Phase) (here there new : Option (List Record)) → Goes c phase (Here x r) next →
        Links limits c own here x r new →
        Stands phase here there → Stands next new there
    here_goes Asking x r next here there new goes link stands = absurd stands
    here_goes Making x r next here there new goes link stands = absurd stands
    here_goes (Listing names) x r next here there new goes link stands = absurd stands
    here_goes (Getting n ns offer) x r next here there new goes link stands = absurd goes
    here_goes (Storing n text ns offer) x r next here there new goes link stands =
        let put = is_put limits c own here new x r link text goes.0 goes.1 in
        let q = in_one other own n text stands.1 put.stored in
        let t = stands.0 in
        subst (λ p. Stands p new there) (sym goes.2) (
          record { taking = taking_stays mine theirs here new (n ∷ ns) put.same t.taking; there_is = t.there_is; offer_is = t.offer_is },
          record { it = q.0; in_own = q.2; in_other = q.1 },
        )
    here_goes (Applying n ns offer) x r next here there new goes link stands =
        let t = stands.0 in
        let b = stands.1 in
        let taking = takes mine theirs limits c own other begun.lawful_theirs begun.stored_theirs here new x r link n ns b.it
        goes.0 goes.1 b.in_own b.in_other t.taking in
        subst (λ p. Stands p new there) (sym goes.2) (to_get_stands new there ns offer
        (record { taking = taking; there_is = t.there_is; offer_is = t.offer_is }))
    here_goes (Giving n ns) x r next here there new goes link stands =
        let g = is_got limits c own here new x r link n goes.1.0 goes.0 goes.1.1 in
        subst (λ p. Stands p new there) (sym goes.1.2)
        (record { here_is = g.same ∙ stands.here_is; giving = stands.giving }, record { it = g.it; there = g.there; text_is = g.text_is })
    here_goes (Sending n text ns) x r next here there new goes link stands = absurd goes
    here_goes (Offering n ns) x r next here there new goes link stands = absurd goes
    here_goes Over x r next here there new goes link stands = absurd goes

    -- and one that was replied there
    pub there_goes : (phase : Phase) (x : Command) (r : Numbered) (next : Phase) (here there new : Option (List Record)) → Goes c phase (There x r) next →
        Links others c other there x r new →
        Stands phase here there → Stands next here new
    there_goes Asking x r next here there new goes link stands = absurd stands
    there_goes Making x r next here there new goes link stands = absurd stands
    there_goes (Listing names) x r next here there new goes link stands = absurd stands
    there_goes (Getting n ns offer) x r next here there new goes link stands =
        let g = is_got others c other there new x r link n goes.1.0 goes.0 goes.1.1 in
        subst (λ p. Stands p here new) (sym goes.1.4) (
          record { taking = stands.taking; there_is = g.same ∙ stands.there_is; offer_is = stands.offer_is },
          record { it = g.it; there = g.there; text_is = g.text_is },
        )
    there_goes (Storing n text ns offer) x r next here there new goes link stands = absurd goes
    there_goes (Applying n ns offer) x r next here there new goes link stands = absurd goes
    there_goes (Giving n ns) x r next here there new goes link stands = absurd goes
    there_goes (Sending n text ns) x r next here there new goes link stands =
        let put = is_put others c other there new x r link text goes.0 goes.1 in
        let q = in_one own other n text stands.1 put.stored in
        let g = stands.0 in
        subst (λ p. Stands p here new) (sym goes.2) (
          record {
            here_is = g.here_is;
            giving = taking_stays theirs mine there new
                (n ∷ ns) put.same g.giving;
          },
          record { it = q.0; in_own = q.1; in_other = q.2 },
        )
    there_goes (Offering n ns) x r next here there new goes link stands =
        let g = stands.0 in
        let b = stands.1 in
        let giving = takes theirs mine others c other own begun.lawful_mine begun.stored_mine there new x r link n ns b.it
        goes.0 goes.1 b.in_other b.in_own g.giving in
        subst (λ p. Stands p here new) (sym goes.2) (to_give_stands here new ns (record { here_is = g.here_is; giving = giving }))
    there_goes Over x r next here there new goes link stands = absurd goes
