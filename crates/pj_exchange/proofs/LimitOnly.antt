-- A refusal here that the exchange does not foresee is that of a limit, where two sides have one text for each name.
use Rattle.std.proofs.Common.{◌≡◌, ℕ, List, [], ◌∷◌, ◌++◌, refl, sym, ◌∙◌, ap, subst, inl, inr}
use Rattle.std.specs.Prelude.{Option, Some}
use Rattle.pj_name.specs.declared.name.Name.{Name}
use Rattle.pj_name.specs.Name.{same_name}
use Rattle.pj_change.specs.declared.change.Record.{Record}
use Rattle.pj_change.specs.Lawful.{record_of}
use Rattle.pj_change.specs.Sets.{HaveOneText}
use Rattle.pj_change.proofs.LawfulLists.{first_part, second_part}
use Rattle.pj_change.proofs.Members.{first_member}
use Rattle.pj_machine.specs.declared.channel_name.ChannelName.{ChannelName}
use Rattle.pj_machine.specs.declared.command.Command.{Command}
use Rattle.pj_machine.specs.declared.command.Command.TheVariants as command
use Rattle.pj_machine.specs.declared.journal.Entry.{Entry}
use Rattle.pj_machine.specs.declared.limits.Limits.{Limits}
use Rattle.pj_machine.specs.declared.reply.Numbered.TheVariants.{At}
use Rattle.pj_machine.specs.declared.reply.Refusal.{Refusal}
use Rattle.pj_machine.specs.declared.reply.Refusal.TheVariants as refusal
use Rattle.pj_machine.specs.declared.reply.Reply.{Reply}
use Rattle.pj_machine.specs.declared.reply.Reply.TheVariants.{Body, No}
use Rattle.pj_machine.specs.Answer.{AnswersIn, IsAnswer}
use Rattle.pj_machine.specs.State.{State}
use Rattle.pj_machine.proofs.Found.{found_by}
use Rattle.pj_machine.proofs.OneRecord.{record_of_text}
use Rattle.pj_machine.proofs.SoundSteps.{legal_replay}
use Rattle.pj_replies.specs.MayCome.{MayCome, MayRefuse, MayTell}
use Rattle.pj_replies.proofs.Coming.{answers_may_come}
use Rattle.pj_exchange.specs.Ends.{Course, IsForeseen, IsLastHere, all_of}
use Rattle.pj_exchange.specs.Events.{Event, Here, asked, told, sent, got}
use Rattle.pj_exchange.specs.Honest.{HaveOneTextTogether, IsOfLimit}
use Rattle.pj_exchange.specs.Phases.{Phase, Asking, Making, Listing, Getting, Storing, Applying, Giving, Sending, Offering, Over, Asks, Runs}
use Rattle.pj_exchange.specs.Sides.{IsSide}
use Rattle.pj_exchange.proofs.Excluded.{clashes, not_change, not_channel, not_stored, not_taken}
use Rattle.pj_exchange.proofs.Opening.{Met, Opens}
use Rattle.pj_exchange.proofs.Ready.{IsReady, run_ready}
use Rattle.pj_exchange.proofs.Replies.{member_found}
use Rattle.pj_exchange.proofs.SideSteps.{Held, Links, Stepped}
use Rattle.pj_exchange.proofs.Stages.{link_of}
use Rattle.pj_exchange.proofs.Together.{both}
use Rattle.pj_exchange.proofs.Unites.{stored_member}

-- why a command may be refused, where what is replied is a refusal
refusal_of : (x : Command) (why : Refusal) → MayCome x (No why) → (MayTell x (No why) → ⊥) → MayRefuse x why
refusal_of x why (inl t) never = absurd (never t)
refusal_of x why (inr t) never = (let same : why ≡ t.0 = cc (t.2) in subst (λ w. MayRefuse x w) (sym same) t.1)

-- an answer of a side
answer_of : (limits : Limits) (c : ChannelName) (store : List Record) (old new : Option (List Record)) (x : Command) (reply : Reply) →
    (l : Stepped limits c store old x reply new) → IsAnswer limits l.journal x reply l.entered
answer_of limits c store old new x reply l = record { state = l.state; replayed = l.replayed; answers = l.answers }

module _ (limits others : Limits) (c : ChannelName) (own other : List Record) (first_here first_there : Option (List Record))
    (one : HaveOneText (own ++ other)) where
  module _ (here there new : Option (List Record)) (a b : State) (x : Command) (place : ℕ) (why : Refusal)
      (link : Links limits c own here x (At place (No why)) new) (held : Held limits a x (No why) b) where
    -- the same, of a command that is known
    link_as : (y : Command) → x ≡ y → Stepped limits c own here y (No why) new
    link_as y is = link_of limits c own here new x (At place (No why)) link y place (No why) is refl

    -- and of the store
    held_as : (y : Command) → x ≡ y → Held limits a y (No why) b
    held_as y is = subst (λ z. Held limits a z (No why) b) is held

    -- and of a refusal that is known
    link_why : (y : Command) (is : x ≡ y) (known : Refusal) → why ≡ known →
        AnswersIn limits (link_as y is).state (link_as y is).journal y (record { reply = No known; entered = (link_as y is).entered })
    link_why y is known same =
        let l = link_as y is in
        subst (λ w. AnswersIn limits l.state l.journal y (record { reply = No w; entered = l.entered })) same l.answers

    -- and of the store with a refusal that is known
    held_why : (y : Command) (is : x ≡ y) (known : Refusal) → why ≡ known →
        AnswersIn limits (held_as y is).state (held_as y is).journal y (record { reply = No known; entered = (held_as y is).entered })
    held_why y is known same =
        let h = held_as y is in
        subst (λ w. AnswersIn limits h.state h.journal y (record { reply = No w; entered = h.entered })) same h.answers

    -- why it may be refused
    may : (y : Command) → x ≡ y → (MayTell y (No why) → ⊥) → MayRefuse y why
    may y is never =
        let l = link_as y is in
        refusal_of y why (answers_may_come limits l.journal y (No why) l.entered (answer_of limits c own here new y (No why) l)) never

    -- a refusal of a limit
    limit : (known : Refusal) → why ≡ known → IsOfLimit known → IsOfLimit why
    limit known same is = subst IsOfLimit (sym same) is

    -- a text of the other store does not clash
    no_clash : (text : List ℕ) (n : Name) (q : Record) → x ≡ command.Put text → record_of other n ≡ Some q → q.text ≡ text → why ≡ refusal.Clash → ⊥
    no_clash text n q is there text_is same =
        let l = link_as (command.Put text) is in
        let k = clashes limits l.state l.journal l.entered text (link_why (command.Put text) is refusal.Clash same) in
        let s = k.2 in
        let record_is : k.0 ≡ q = record_of_text k.0 q (k.1 ∙ sym text_is) in
        let in_own = stored_member own s.stored (l.keeps s.stored.name s.stored (member_found l.state l.sound s.stored s.member)) in
        let in_other = (found_by (λ r. same_name r.name n) other q there).member in
        s.other (one s.stored q (first_part own other s.stored in_own) (second_part own other q in_other) (s.named ∙ ap (λ (r : Record). r.name) record_is)
        ∙ sym (ap (λ (r : Record). r.text) record_is))

    -- what is refused in each phase
    limit_only : (phase : Phase) → Opens limits others c own other first_here first_there phase here there → IsReady phase a.store → Asks c phase x →
        (IsForeseen phase why → ⊥) → IsOfLimit why
    limit_only Asking opens ready asks other_than = absurd (other_than (may (command.Log c) asks (λ t. let k : No why ≡ Body t.0 = t.1 in cc k)))
    limit_only Making opens ready asks other_than = elim (may (command.New c) asks (λ k. cc k)) [
      | inl e ↦
          let l = link_as (command.New c) asks in
          absurd (not_taken limits l.state l.journal l.entered c (l.old_is ∙ opens.1) (link_why (command.New c) asks refusal.Taken e))
      | inr u ↦ elim u [
        | inl e ↦ limit refusal.FullChannels e tt
        | inr v ↦ elim v [ inl e ↦ limit refusal.FullJournal e tt | inr k ↦ absurd k ]
      ]
    ]
    limit_only (Listing names) opens ready asks other_than = absurd asks
    limit_only (Getting n ns offer) opens ready asks other_than = absurd asks
    limit_only (Storing n text ns offer) opens ready asks other_than =
        let m : Met limits others c own other first_here first_there (Storing n text ns offer) here there = opens in
        let t = m.stands.1 in
        elim (may (command.Put text) asks never) [
          | inl e ↦ absurd (other_than e)
          | inr u ↦ elim u [
            | inl e ↦ absurd (no_clash text n t.it asks t.there t.text_is e)
            | inr v ↦ elim v [
              | inl e ↦ limit refusal.FullStore e tt
              | inr z ↦ elim z [ inl e ↦ limit refusal.FullJournal e tt | inr k ↦ absurd k ]
            ]
          ]
        ]
      where
        never : MayTell (command.Put text) (No why) → ⊥
        never (inl k) = cc k
        never (inr (inl k)) = cc k
        never (inr (inr k)) = k
    limit_only (Applying n ns offer) opens ready asks other_than =
        let m : Met limits others c own other first_here first_there (Applying n ns offer) here there = opens in
        elim (may (command.Apply c n) asks never) [
          | inl any ↦ elim any [
            | inl e ↦
                let l = link_as (command.Apply c n) asks in
                let t = m.stands.0.taking in
                absurd (not_channel limits l.state l.journal l.entered c n (m.mine ++ t.done) (l.old_is ∙ t.old_is)
                (link_why (command.Apply c n) asks refusal.Channel e))
            | inr u ↦ elim u [
              | inl e ↦
                  let h = held_as (command.Apply c n) asks in
                  let r = ready.1 in
                  absurd (not_stored limits h.state h.journal h.entered c n r.0 (h.keeps n r.0 r.1) (held_why (command.Apply c n) asks refusal.Change e))
              | inr v ↦ elim v [ inl e ↦ limit refusal.FullJournal e tt | inr k ↦ absurd k ]
            ]
          ]
          | inr of ↦ absurd (other_than of)
        ]
      where
        never : MayTell (command.Apply c n) (No why) → ⊥
        never (inl k) = cc k
        never (inr (inl k)) = cc k
        never (inr (inr k)) = k
    limit_only (Giving n ns) opens ready asks other_than =
        let e = may (command.Get n) asks (λ t. let k : No why ≡ Body t.0 = t.1 in cc k) in
        let h = held_as (command.Get n) asks in
        let r = ready n (first_member n ns) in
        absurd (not_change limits h.state h.journal h.entered n r.0 (h.keeps n r.0 r.1) (held_why (command.Get n) asks refusal.Change e))
    limit_only (Sending n text ns) opens ready asks other_than = absurd asks
    limit_only (Offering n ns) opens ready asks other_than = absurd asks
    limit_only Over opens ready asks other_than = absurd asks

-- so it is where an exchange ends at a refusal here
pub local_is_limit : (c : ChannelName) (s : Course) (limits others : Limits) (here there : List Entry) (pass other : ℕ) → Runs c Asking s.run s.phase →
    IsSide limits here pass c (asked (all_of s)) (told (all_of s)) → IsSide others there other c (sent (all_of s)) (got (all_of s)) →
    HaveOneTextTogether here there →
    (why : Refusal) → IsLastHere c s why → (IsForeseen s.phase why → ⊥) → IsOfLimit why
local_is_limit c s limits others here there pass other runs own peer one why l other_than =
    let more : List Event = Here l.command (At l.place (No why)) ∷ [] in
    let mine = subst (λ e. IsSide limits here pass c (asked (s.run ++ e)) (told (s.run ++ e))) l.is own in
    let theirs = subst (λ e. IsSide others there other c (sent (s.run ++ e)) (got (s.run ++ e))) l.is peer in
    let b = both c limits others s.run more s.phase runs here there pass other mine theirs
    (λ e. (subst (λ p. Asks c p l.command) e l.asks, (l.place, No why, refl))) (λ early. tt) in
    let a = b.arrived in
    let whole = legal_replay limits here mine.legal in
    let end = legal_replay others there theirs.legal in
    let r = run_ready limits c Asking s.run more s.phase b.first_state b.last_state runs b.states tt in
    limit_only limits others c whole.0.store end.0.store b.first_here b.first_there
    (one whole.0 end.0 whole.1 end.1) a.here a.there a.rest_here.0 r.at r.rest.0 l.command l.place why
    a.rest_here.1 r.rest.1 s.phase a.opens r.ready l.asks other_than
