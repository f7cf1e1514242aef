-- What an exchange has reached from its first event on.
use Rattle.std.proofs.Common.{◌≡◌, List, [], ◌∷◌, ◌++◌, refl, sym, ◌∙◌, subst, inl, inr}
use Rattle.std.specs.Prelude.{◌⊎◌, Option, Some, None}
use Rattle.pj_name.specs.declared.name.Name.{Name}
use Rattle.pj_change.specs.declared.change.Record.{Record}
use Rattle.pj_change.specs.Lawful.{IsLawful}
use Rattle.pj_machine.specs.declared.channel_name.ChannelName.{ChannelName}
use Rattle.pj_machine.specs.declared.command.Command.{Command}
use Rattle.pj_machine.specs.declared.command.Command.TheVariants as command
use Rattle.pj_machine.specs.declared.limits.Limits.{Limits}
use Rattle.pj_machine.specs.declared.reply.Numbered.{Numbered}
use Rattle.pj_machine.specs.declared.reply.Refusal.TheVariants as refusal
use Rattle.pj_machine.specs.declared.reply.Reply.TheVariants.{Done, Body, No}
use Rattle.pj_machine.specs.Listings.{log_text}
use Rattle.pj_machine.proofs.SoundStates.{AreStored, none_lawful, none_stored}
use Rattle.pj_session.specs.Calls.{Chain}
use Rattle.pj_exchange.specs.Events.{Event, Here, There, asked, told, sent, got}
use Rattle.pj_exchange.specs.Phases.{Phase, Asking, Making, Listing, Getting, Storing, Applying, Giving, Sending, Offering, Over, Says, Goes, Runs, lacked, to_get}
use Rattle.pj_exchange.proofs.Lacking.{lacking, lacked_names}
use Rattle.pj_exchange.proofs.LogNames.{one_log}
use Rattle.pj_exchange.proofs.Replies.{names_of, logged, absent, made}
use Rattle.pj_exchange.proofs.SideSteps.{Links}
use Rattle.pj_exchange.proofs.Stages.{IsBegun, Stands, link_of, here_goes, there_goes, listed_stands}

-- the list of the channel, or none where it is not there
abbrev pub IsListOrNone : Option (List Record) → List Record → Type 0
IsListOrNone o list = (o ≡ Some list) ⊎ ((o ≡ None) × (list ≡ []))

module _ (limits others : Limits) (c : ChannelName) (own other : List Record) (first_here first_there : Option (List Record)) where
  -- both logs were read
  pub record Met (phase : Phase) (here there : Option (List Record)) : Type 0 where
    pub mine : List Record
    pub theirs : List Record
    pub mine_are : IsListOrNone first_here mine
    pub theirs_are : first_there ≡ Some theirs
    pub begun : IsBegun limits others c own other mine theirs
    pub stands : Stands limits others c own other mine theirs phase here there

  -- the own log was read, or the channel was made
  pub record Listed (names : List Name) (here : Option (List Record)) : Type 0 where
    pub mine : List Record
    pub mine_are : IsListOrNone first_here mine
    pub here_is : here ≡ Some mine
    pub names_are : names ≡ names_of mine
    pub lawful : IsLawful mine
    pub stored : AreStored own mine

  -- what is known at a phase
  abbrev pub Opens : Phase → Option (List Record) → Option (List Record) → Type 0
  Opens Asking here there = (here ≡ first_here) × (there ≡ first_there)
  Opens Making here there = (first_here ≡ None) × (here ≡ None) × (there ≡ first_there)
  Opens (Listing names) here there = Listed names here × (there ≡ first_there)
  Opens (Getting n ns offer) here there = Met (Getting n ns offer) here there
  Opens (Storing n text ns offer) here there = Met (Storing n text ns offer) here there
  Opens (Applying n ns offer) here there = Met (Applying n ns offer) here there
  Opens (Giving n ns) here there = Met (Giving n ns) here there
  Opens (Sending n text ns) here there = Met (Sending n text ns) here there
  Opens (Offering n ns) here there = Met (Offering n ns) here there
  Opens Over here there = Met Over here there

  -- a phase behind both logs
  met_opens : (phase : Phase) (here there : Option (List Record)) → Met phase here there → Opens phase here there
  met_opens Asking here there m = absurd m.stands
  met_opens Making here there m = absurd m.stands
  met_opens (Listing names) here there m = absurd m.stands
  met_opens (Getting n ns offer) here there m = m
  met_opens (Storing n text ns offer) here there m = m
  met_opens (Applying n ns offer) here there m = m
  met_opens (Giving n ns) here there m = m
  met_opens (Sending n text ns) here there m = m
  met_opens (Offering n ns) here there m = m
  met_opens Over here there m = m

  -- ---- an event that was answered here

  module _ (x : Command) (r : Numbered) (next : Phase) (here there new : Option (List Record)) (link : Links limits c own here x r new) where
    -- what is answered here behind both logs
    met_here : (phase : Phase) → Goes c phase (Here x r) next → Met phase here there → Opens next new there
    met_here phase goes m = met_opens next new there (record {
      mine = m.mine;
      theirs = m.theirs;
      mine_are = m.mine_are;
      theirs_are = m.theirs_are;
      begun = m.begun;
      stands = here_goes limits others c own other m.mine m.theirs m.begun phase x r next here there new goes link m.stands;
    })

    -- the own log
    listed : (names : List Name) → x ≡ command.Log c → Says (Body (log_text names)) r → here ≡ first_here → Listed names new
    listed names is says same =
        let l = logged limits c own here new (log_text names)
        (link_of limits c own here new x r link (command.Log c) says.0 (Body (log_text names)) is says.1) in
        record {
          mine = l.list;
          mine_are = inl (sym same ∙ l.old_is);
          here_is = l.new_is;
          names_are = one_log names (names_of l.list) l.body_is;
          lawful = l.lawful;
          stored = l.stored;
        }

    -- what is answered here
    pub here_opens : (phase : Phase) → Goes c phase (Here x r) next → Opens phase here there → Opens next new there
    here_opens Asking goes opens = elim goes.1 [
      | inl g ↦ subst (λ p. Opens p new there) (sym g.2) (listed g.0 goes.0 g.1 opens.0, opens.1)
      | inr g ↦
          let a = absent limits c own here new (link_of limits c own here new x r link (command.Log c) g.0.0 (No refusal.Channel) goes.0 g.0.1) in
          subst (λ p. Opens p new there) (sym g.1) (sym opens.0 ∙ a.0, a.1, opens.1)
    ]
    here_opens Making goes opens =
        let is = (made limits c own here new (link_of limits c own here new x r link (command.New c) goes.1.0 Done goes.0 goes.1.1)).1 in
        subst (λ p. Opens p new there) (sym goes.2)
        (record { mine = []; mine_are = inr (opens.0, refl); here_is = is; names_are = refl; lawful = none_lawful; stored = none_stored own }, opens.2)
    here_opens (Listing names) goes opens = absurd goes
    here_opens (Getting n ns offer) goes opens = met_here (Getting n ns offer) goes opens
    here_opens (Storing n text ns offer) goes opens = met_here (Storing n text ns offer) goes opens
    here_opens (Applying n ns offer) goes opens = met_here (Applying n ns offer) goes opens
    here_opens (Giving n ns) goes opens = met_here (Giving n ns) goes opens
    here_opens (Sending n text ns) goes opens = met_here (Sending n text ns) goes opens
    here_opens (Offering n ns) goes opens = met_here (Offering n ns) goes opens
    here_opens Over goes opens = absurd goes

  -- ---- an event that was replied there

  module _ (x : Command) (r : Numbered) (next : Phase) (here there new : Option (List Record)) (link : Links others c other there x r new) where
    -- what is replied there behind both logs
    met_there : (phase : Phase) → Goes c phase (There x r) next → Met phase here there → Opens next here new
    met_there phase goes m = met_opens next here new (record {
      mine = m.mine;
      theirs = m.theirs;
      mine_are = m.mine_are;
      theirs_are = m.theirs_are;
      begun = m.begun;
      stands = there_goes limits others c own other m.mine m.theirs m.begun phase x r next here there new goes link m.stands;
    })

    -- what is replied there
    pub there_opens : (phase : Phase) → Goes c phase (There x r) next → Opens phase here there → Opens next here new
    there_opens Asking goes opens = absurd goes
    there_opens Making goes opens = absurd goes
    there_opens (Listing names) goes opens =
        let b = opens.0 in
        let body = log_text goes.1.0 in
        let l = logged others c other there new body (link_of others c other there new x r link (command.Log c) goes.1.1.0 (Body body) goes.0 goes.1.1.1) in
        let theirs_are = one_log goes.1.0 (names_of l.list) l.body_is in
        let lists : to_get (lacked names goes.1.0) (lacked goes.1.0 names) ≡ to_get (names_of (lacking b.mine l.list)) (names_of (lacking l.list b.mine)) =
        (λ i. to_get (lacked (b.names_are i) (theirs_are i)) (lacked (theirs_are i) (b.names_are i)))
        ∙ (λ i. to_get (lacked_names b.mine l.list i) (lacked_names l.list b.mine i)) in
        met_opens next here new (record {
          mine = b.mine;
          theirs = l.list;
          mine_are = b.mine_are;
          theirs_are = sym opens.1 ∙ l.old_is;
          begun = record { lawful_mine = b.lawful; lawful_theirs = l.lawful; stored_mine = b.stored; stored_theirs = l.stored };
          stands = subst (λ p. Stands limits others c own other b.mine l.list p here new) (sym (goes.1.3 ∙ lists))
              (listed_stands limits others c own other b.mine l.list here new b.here_is l.new_is);
        })
    there_opens (Getting n ns offer) goes opens = met_there (Getting n ns offer) goes opens
    there_opens (Storing n text ns offer) goes opens = met_there (Storing n text ns offer) goes opens
    there_opens (Applying n ns offer) goes opens = met_there (Applying n ns offer) goes opens
    there_opens (Giving n ns) goes opens = met_there (Giving n ns) goes opens
    there_opens (Sending n text ns) goes opens = met_there (Sending n text ns) goes opens
    there_opens (Offering n ns) goes opens = met_there (Offering n ns) goes opens
    there_opens Over goes opens = absurd goes

  -- ---- all events

  -- what stands at a phase, and how both sides go on
  pub record Arrives (phase : Phase) (last_here last_there : Option (List Record)) (more : List Event) : Type 0 where
    pub here : Option (List Record)
    pub there : Option (List Record)
    pub opens : Opens phase here there
    pub rest_here : Chain (λ o x r n. Links limits c own o x r n) here (asked more) (told more) last_here
    pub rest_there : Chain (λ o x r n. Links others c other o x r n) there (sent more) (got more) last_there

  -- the events of a run lead to what stands at its last phase
  pub arrives : (phase : Phase) (run more : List Event) (last : Phase) (here there last_here last_there : Option (List Record)) → Runs c phase run last →
      Chain (λ o x r n. Links limits c own o x r n) here (asked (run ++ more)) (told (run ++ more)) last_here →
      Chain (λ o x r n. Links others c other o x r n) there (sent (run ++ more)) (got (run ++ more)) last_there →
      Opens phase here there → Arrives last last_here last_there more
  arrives phase [] more last here there last_here last_there runs in_own in_other opens =
      record { here = here; there = there; opens = subst (λ p. Opens p here there) (sym runs) opens; rest_here = in_own; rest_there = in_other }
  arrives phase (Here x r ∷ run) more last here there last_here last_there runs in_own in_other opens =
      arrives runs.0 run more last in_own.0 there last_here last_there runs.2 in_own.2 in_other
      (here_opens x r runs.0 here there in_own.0 in_own.1 phase runs.1 opens)
  arrives phase (There x r ∷ run) more last here there last_here last_there runs in_own in_other opens =
      arrives runs.0 run more last here in_other.0 last_here last_there runs.2 in_own in_other.2
      (there_opens x r runs.0 here there in_other.0 in_other.1 phase runs.1 opens)
