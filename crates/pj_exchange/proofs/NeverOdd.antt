-- Two sides never say what no side says, where both have one text for each name.
use Rattle.std.proofs.Common.{◌≡◌, ℕ, List, [], ◌∷◌, ◌++◌, refl, sym, ◌∙◌, ap, subst, inl, inr, append_assoc}
use Rattle.std.specs.Prelude.{Option}
use Rattle.std.proofs.lemmas.Option.{same_Some}
use Rattle.pj_name.specs.Name.{name_of}
use Rattle.pj_change.specs.declared.change.Record.{Record}
use Rattle.pj_change.specs.Lawful.{Follows}
use Rattle.pj_change.specs.Sets.{HaveOneText}
use Rattle.pj_change.specs.Union.{union}
use Rattle.pj_change.proofs.EqualRecords.{have_one_record}
use Rattle.pj_change.proofs.Without.{union_lawful}
use Rattle.pj_machine.specs.declared.channel_name.ChannelName.{ChannelName}
use Rattle.pj_machine.specs.declared.command.Command.{Command}
use Rattle.pj_machine.specs.declared.command.Command.TheVariants as command
use Rattle.pj_machine.specs.declared.limits.Limits.{Limits}
use Rattle.pj_machine.specs.declared.reply.Numbered.{Numbered}
use Rattle.pj_machine.specs.declared.reply.Numbered.TheVariants.{At}
use Rattle.pj_machine.specs.declared.reply.Refusal.{Refusal}
use Rattle.pj_machine.specs.declared.reply.Refusal.TheVariants as refusal
use Rattle.pj_machine.specs.declared.reply.Reply.TheVariants.{Body, No}
use Rattle.pj_machine.proofs.SoundStates.{record_named}
use Rattle.pj_machine.proofs.SoundSteps.{legal_replay}
use Rattle.pj_exchange.specs.Ends.{IsOdd, IsUnfit}
use Rattle.pj_exchange.specs.Events.{Event, Here, There, asked, told, sent, got}
use Rattle.pj_exchange.specs.Laws.{SidesAreNeverOdd}
use Rattle.pj_exchange.specs.Phases.{Phase, Asking, Making, Listing, Getting, Storing, Applying, Giving, Sending, Offering, Over, Requests, Asks}
use Rattle.pj_exchange.specs.Sides.{IsSide}
use Rattle.pj_exchange.proofs.Beginning.{IsEarly, StartsWithLog}
use Rattle.pj_exchange.proofs.LogNames.{distinct_names}
use Rattle.pj_exchange.proofs.Opening.{Met, Opens}
use Rattle.pj_exchange.proofs.Replies.{names_of, logged, malformed, declined}
use Rattle.pj_exchange.proofs.SideSteps.{Links}
use Rattle.pj_exchange.proofs.Stages.{is_got, link_of, next_of, next_stored}
use Rattle.pj_exchange.proofs.Together.{both}
use Rattle.pj_exchange.proofs.Unites.{lists_one_text}

module _ (limits others : Limits) (c : ChannelName) (own other : List Record) (first_here first_there : Option (List Record)) where
  -- a reply of the other side leads on
  there_odd : (phase : Phase) (here there new : Option (List Record)) → Opens limits others c own other first_here first_there phase here there →
      (x : Command) (r : Numbered) →
      Links others c other there x r new → Requests c phase x → IsOdd phase r → ⊥
  there_odd (Listing names) here there new opens x r link sends odd =
      let l = logged others c other there new odd.0 (link_of others c other there new x r link (command.Log c) odd.1.0 (Body odd.0) sends odd.1.1) in
      odd.2 (names_of l.list) (distinct_names l.list l.lawful) l.body_is
  there_odd (Getting n ns offer) here there new opens x r link sends odd =
      let g = is_got others c other there new x r link n odd.0 sends odd.1 in
      odd.2 (sym (g.it.named ∙ ap name_of g.text_is) ∙ record_named other n g.it g.there)
  there_odd Asking here there new opens x r link sends odd = odd
  there_odd Making here there new opens x r link sends odd = odd
  there_odd (Storing n text ns offer) here there new opens x r link sends odd = odd
  there_odd (Applying n ns offer) here there new opens x r link sends odd = odd
  there_odd (Giving n ns) here there new opens x r link sends odd = odd
  there_odd (Sending n text ns) here there new opens x r link sends odd = odd
  there_odd (Offering n ns) here there new opens x r link sends odd = odd
  there_odd Over here there new opens x r link sends odd = odd

  -- what was got from it is a change, and follows the own list
  here_unfit : HaveOneText (own ++ other) → (phase : Phase) (here there new : Option (List Record)) →
      Opens limits others c own other first_here first_there phase here there →
      (x : Command) (place : ℕ) (why : Refusal) → Links limits c own here x (At place (No why)) new → Asks c phase x → IsUnfit phase why → ⊥
  here_unfit one (Storing n text ns offer) here there new opens x place why link asks unfit =
      let t = opens.stands.1 in
      let told = link_of limits c own here new x (At place (No why)) link (command.Put text) place (No refusal.Malformed) asks
      (ap (λ w. At place (No w)) unfit) in
      malformed limits c own here new text told t.it.change (sym t.text_is ∙ t.it.spelled)
  here_unfit one (Applying n ns offer) here there new opens x place why link asks unfit =
      let m : Met limits others c own other first_here first_there (Applying n ns offer) here there = opens in
      let t = m.stands.0.taking in
      let b = m.stands.1 in
      let told = link_of limits c own here new x (At place (No why)) link (command.Apply c n) place (No why) asks refl in
      let d = declined limits c own here new n why unfit told in
      let next = next_of m.mine m.theirs here n ns t in
      let is = next_stored m.mine m.theirs limits c own other m.begun.lawful_theirs m.begun.stored_theirs t.done n ns next b.it b.in_other in
      let lists = same_Some d.list (m.mine ++ t.done) (sym d.old_is ∙ t.old_is) in
      let same = same_Some d.it b.it (sym d.there ∙ b.in_own) ∙ is in
      let unique = have_one_record (m.mine ++ m.theirs) (lists_one_text own other m.mine m.theirs one m.begun.stored_mine m.begun.stored_theirs) in
      let whole : union m.mine m.theirs ≡ (m.mine ++ t.done) ++ next.it ∷ next.rest =
      ap (λ l. m.mine ++ l) next.parts ∙ sym (append_assoc m.mine t.done (next.it ∷ next.rest)) in
      let follows : Follows (m.mine ++ t.done) next.it =
      union_lawful m.mine m.theirs unique m.begun.lawful_mine m.begun.lawful_theirs (m.mine ++ t.done) next.it next.rest whole in
      d.unfit (subst (λ z. Follows d.list z) (sym same) (subst (λ l. Follows l next.it) (sym lists) follows))
  here_unfit one Asking here there new opens x place why link asks unfit = unfit
  here_unfit one Making here there new opens x place why link asks unfit = unfit
  here_unfit one (Listing names) here there new opens x place why link asks unfit = unfit
  here_unfit one (Getting n ns offer) here there new opens x place why link asks unfit = unfit
  here_unfit one (Giving n ns) here there new opens x place why link asks unfit = unfit
  here_unfit one (Sending n text ns) here there new opens x place why link asks unfit = unfit
  here_unfit one (Offering n ns) here there new opens x place why link asks unfit = unfit
  here_unfit one Over here there new opens x place why link asks unfit = unfit

-- ---- how the requests begin

-- where nothing was sent before, a reply that is odd is that to `log`
first_odd : (c : ChannelName) (phase : Phase) (x : Command) (r : Numbered) → Requests c phase x → IsOdd phase r → IsEarly phase →
    StartsWithLog c (x ∷ []) (r ∷ [])
first_odd c (Listing names) x r sends odd early = (sends, (odd.1.0, Body odd.0, odd.1.1))
first_odd c Asking x r sends odd early = absurd odd
first_odd c Making x r sends odd early = absurd odd
first_odd c (Getting n ns offer) x r sends odd early = absurd early
first_odd c (Storing n text ns offer) x r sends odd early = absurd early
first_odd c (Applying n ns offer) x r sends odd early = absurd early
first_odd c (Giving n ns) x r sends odd early = absurd early
first_odd c (Sending n text ns) x r sends odd early = absurd early
first_odd c (Offering n ns) x r sends odd early = absurd early
first_odd c Over x r sends odd early = absurd early

-- nothing is unfit before anything was sent
not_early : (phase : Phase) (why : Refusal) → IsUnfit phase why → IsEarly phase → ⊥
not_early Asking why unfit early = unfit
not_early Making why unfit early = unfit
not_early (Listing names) why unfit early = unfit
not_early (Getting n ns offer) why unfit early = early
not_early (Storing n text ns offer) why unfit early = early
not_early (Applying n ns offer) why unfit early = early
not_early (Giving n ns) why unfit early = early
not_early (Sending n text ns) why unfit early = early
not_early (Offering n ns) why unfit early = early
not_early Over why unfit early = early

-- the law
pub never_odd : SidesAreNeverOdd
never_odd c s limits others here there pass other runs own peer one (inl l) =
    let more : List Event = There l.request l.reply ∷ [] in
    let mine = subst (λ e. IsSide limits here pass c (asked (s.run ++ e)) (told (s.run ++ e))) l.is own in
    let theirs = subst (λ e. IsSide others there other c (sent (s.run ++ e)) (got (s.run ++ e))) l.is peer in
    let b = both c limits others s.run more s.phase runs here there pass other mine theirs
    (λ e. absurd (subst (λ p. IsOdd p l.reply) e l.of)) (first_odd c s.phase l.request l.reply l.sends l.of) in
    let a = b.arrived in
    there_odd limits others c _ _ b.first_here b.first_there s.phase a.here a.there a.rest_there.0 a.opens l.request l.reply a.rest_there.1 l.sends l.of
never_odd c s limits others here there pass other runs own peer one (inr u) =
    let why : Refusal = u.0 in
    let l = u.1 in
    let more : List Event = Here l.command (At l.place (No why)) ∷ [] in
    let mine = subst (λ e. IsSide limits here pass c (asked (s.run ++ e)) (told (s.run ++ e))) l.is own in
    let theirs = subst (λ e. IsSide others there other c (sent (s.run ++ e)) (got (s.run ++ e))) l.is peer in
    let b = both c limits others s.run more s.phase runs here there pass other mine theirs
    (λ e. absurd (subst (λ p. IsUnfit p why) e u.2)) (λ early. absurd (not_early s.phase why u.2 early)) in
    let a = b.arrived in
    let whole = legal_replay limits here mine.legal in
    let end = legal_replay others there theirs.legal in
    here_unfit limits others c whole.0.store end.0.store b.first_here b.first_there
    (one whole.0 end.0 whole.1 end.1) s.phase a.here a.there a.rest_here.0 a.opens l.command l.place why
    a.rest_here.1 l.asks u.2
