-- What is asked and sent adds to the channel, and does nothing else.
use Rattle.std.proofs.Common.{◌≡◌, List, [], ◌∷◌, ◌++◌, refl, sym, ap, subst, inl, inr}
use Rattle.std.specs.Prelude.{◌⊎◌}
use Rattle.std.specs.List.{AllByRecursion}
use Rattle.std.proofs.lemmas.List.Elements.{All-from_recursion}
use Rattle.pj_name.specs.declared.name.Name.{Name}
use Rattle.pj_machine.specs.declared.channel_name.ChannelName.{ChannelName}
use Rattle.pj_machine.specs.declared.command.Command.{Command}
use Rattle.pj_machine.specs.declared.command.Command.TheVariants as command
use Rattle.pj_machine.specs.declared.reply.Numbered.{Numbered}
use Rattle.pj_exchange.specs.Ends.{IsOfPhase}
use Rattle.pj_exchange.specs.Events.{Event, Here, There, asked, sent}
use Rattle.pj_exchange.specs.Laws.{OnlyGrows}
use Rattle.pj_exchange.specs.Phases.{Phase, Asking, Making, Listing, Getting, Storing, Applying, Giving, Sending, Offering, Over, Adds, Asks, Goes, OnlyAdds, Requests, Runs, to_get, to_give}

-- both logs were read
abbrev IsMet : Phase → Type 0
IsMet Asking = ⊥
IsMet Making = ⊥
IsMet (Listing names) = ⊥
IsMet phase = Unit {0}

-- they were so while changes are given
give_met : (names : List Name) → IsMet (to_give names)
give_met [] = tt
give_met (n ∷ ns) = tt

-- and while they are got
get_met : (names offer : List Name) → IsMet (to_get names offer)
get_met [] offer = give_met offer
get_met (n ∷ ns) offer = tt

module _ (c : ChannelName) where
  -- ---- one event

  -- what was answered here is what the phase asks
  goes_asks : (phase : Phase) (x : Command) (r : Numbered) (next : Phase) → Goes c phase (Here x r) next → Asks c phase x
  goes_asks Asking x r next goes = goes.0
  goes_asks Making x r next goes = goes.0
  goes_asks (Listing names) x r next goes = goes
  goes_asks (Getting n ns offer) x r next goes = goes
  goes_asks (Storing n text ns offer) x r next goes = goes.0
  goes_asks (Applying n ns offer) x r next goes = goes.0
  goes_asks (Giving n ns) x r next goes = goes.0
  goes_asks (Sending n text ns) x r next goes = goes
  goes_asks (Offering n ns) x r next goes = goes
  goes_asks Over x r next goes = goes

  -- what was replied there is what the phase sends
  goes_sends : (phase : Phase) (x : Command) (r : Numbered) (next : Phase) → Goes c phase (There x r) next → Requests c phase x
  goes_sends Asking x r next goes = goes
  goes_sends Making x r next goes = goes
  goes_sends (Listing names) x r next goes = goes.0
  goes_sends (Getting n ns offer) x r next goes = goes.0
  goes_sends (Storing n text ns offer) x r next goes = goes
  goes_sends (Applying n ns offer) x r next goes = goes
  goes_sends (Giving n ns) x r next goes = goes
  goes_sends (Sending n text ns) x r next goes = goes.0
  goes_sends (Offering n ns) x r next goes = goes.0
  goes_sends Over x r next goes = goes

  -- behind both logs it adds to the channel
  asks_adds : (phase : Phase) (x : Command) → IsMet phase → Asks c phase x → Adds c x
  asks_adds Asking x met asks = absurd met
  asks_adds Making x met asks = absurd met
  asks_adds (Listing names) x met asks = absurd met
  asks_adds (Getting n ns offer) x met asks = absurd asks
  asks_adds (Storing n text ns offer) x met asks = subst (λ y. Adds c y) (sym asks) tt
  asks_adds (Applying n ns offer) x met asks = subst (λ y. Adds c y) (sym asks) refl
  asks_adds (Giving n ns) x met asks = subst (λ y. Adds c y) (sym asks) tt
  asks_adds (Sending n text ns) x met asks = absurd asks
  asks_adds (Offering n ns) x met asks = absurd asks
  asks_adds Over x met asks = absurd asks

  -- and so there
  sends_adds : (phase : Phase) (x : Command) → IsMet phase → Requests c phase x → Adds c x
  sends_adds Asking x met sends = absurd met
  sends_adds Making x met sends = absurd met
  sends_adds (Listing names) x met sends = absurd met
  sends_adds (Getting n ns offer) x met sends = subst (λ y. Adds c y) (sym sends) tt
  sends_adds (Storing n text ns offer) x met sends = absurd sends
  sends_adds (Applying n ns offer) x met sends = absurd sends
  sends_adds (Giving n ns) x met sends = absurd sends
  sends_adds (Sending n text ns) x met sends = subst (λ y. Adds c y) (sym sends) tt
  sends_adds (Offering n ns) x met sends = subst (λ y. Adds c y) (sym sends) refl
  sends_adds Over x met sends = absurd sends

  -- behind both logs come only phases that are so
  stays_met : (phase : Phase) (event : Event) (next : Phase) → IsMet phase → Goes c phase event next → IsMet next
  stays_met Asking event next met goes = absurd met
  stays_met Making event next met goes = absurd met
  stays_met (Listing names) event next met goes = absurd met
  stays_met (Getting n ns offer) (Here x r) next met goes = absurd goes
  stays_met (Getting n ns offer) (There x r) next met goes = subst IsMet (sym goes.1.4) tt
  stays_met (Storing n text ns offer) (Here x r) next met goes = subst IsMet (sym goes.2) tt
  stays_met (Storing n text ns offer) (There x r) next met goes = absurd goes
  stays_met (Applying n ns offer) (Here x r) next met goes = subst IsMet (sym goes.2) (get_met ns offer)
  stays_met (Applying n ns offer) (There x r) next met goes = absurd goes
  stays_met (Giving n ns) (Here x r) next met goes = subst IsMet (sym goes.1.2) tt
  stays_met (Giving n ns) (There x r) next met goes = absurd goes
  stays_met (Sending n text ns) (Here x r) next met goes = absurd goes
  stays_met (Sending n text ns) (There x r) next met goes = subst IsMet (sym goes.2) tt
  stays_met (Offering n ns) (Here x r) next met goes = absurd goes
  stays_met (Offering n ns) (There x r) next met goes = subst IsMet (sym goes.2) (give_met ns)
  stays_met Over (Here x r) next met goes = absurd goes
  stays_met Over (There x r) next met goes = absurd goes

  -- ---- all events

  -- all that is asked here and sent adds to the channel
  record AllAdd (events : List Event) : Type 0 where
    here : AllByRecursion (Adds c) (asked events)
    there : AllByRecursion (Adds c) (sent events)

  -- of a run from behind both logs, and what happened last
  all_add : (phase : Phase) (run more : List Event) (last : Phase) → IsMet phase → Runs c phase run last → IsOfPhase c last more → AllAdd (run ++ more)
  all_add phase [] [] last met runs of = record { here = tt; there = tt }
  all_add phase [] (Here x r ∷ []) last met runs of = record { here = (asks_adds phase x met (subst (λ p. Asks c p x) runs of), tt); there = tt }
  all_add phase [] (There x r ∷ []) last met runs of = record { here = tt; there = (sends_adds phase x met (subst (λ p. Requests c p x) runs of), tt) }
  all_add phase [] (Here x r ∷ e ∷ more) last met runs of = absurd of
  all_add phase [] (There x r ∷ e ∷ more) last met runs of = absurd of
  all_add phase (Here x r ∷ run) more last met runs of =
      let rest = all_add runs.0 run more last (stays_met phase (Here x r) runs.0 met runs.1) runs.2 of in
      record { here = (asks_adds phase x met (goes_asks phase x r runs.0 runs.1), rest.here); there = rest.there }
  all_add phase (There x r ∷ run) more last met runs of =
      let rest = all_add runs.0 run more last (stays_met phase (There x r) runs.0 met runs.1) runs.2 of in
      record { here = rest.here; there = (sends_adds phase x met (goes_sends phase x r runs.0 runs.1), rest.there) }

  -- nothing, or the log and then what adds
  abbrev IsLogThen : List Command → Type 0
  IsLogThen xs = (xs ≡ []) ⊎ ((rest : List Command) × AllByRecursion (Adds c) rest × (xs ≡ command.Log c ∷ rest))

  -- the same, from the reading of the other log on
  record AfterOwn (events : List Event) : Type 0 where
    here : AllByRecursion (Adds c) (asked events)
    there : IsLogThen (sent events)

  -- of a run from there
  after_own : (names : List Name) (run more : List Event) (last : Phase) → Runs c (Listing names) run last → IsOfPhase c last more → AfterOwn (run ++ more)
  after_own names [] [] last runs of = record { here = tt; there = inl refl }
  after_own names [] (Here x r ∷ []) last runs of = absurd (subst (λ p. Asks c p x) runs of)
  after_own names [] (There x r ∷ []) last runs of =
      record { here = tt; there = inr ([], tt, ap (λ y. y ∷ []) (subst (λ p. Requests c p x) runs of)) }
  after_own names [] (Here x r ∷ e ∷ more) last runs of = absurd of
  after_own names [] (There x r ∷ e ∷ more) last runs of = absurd of
  after_own names (Here x r ∷ run) more last runs of = absurd runs.1
  after_own names (There x r ∷ run) more last runs of =
      let rest = all_add runs.0 run more last (subst IsMet (sym runs.1.1.3) (get_met _ _)) runs.2 of in
      record { here = rest.here; there = inr (sent (run ++ more), rest.there, ap (λ y. y ∷ sent (run ++ more)) runs.1.0) }

  -- nothing, or the making of the channel and then what adds
  record AfterAbsent (events : List Event) : Type 0 where
    here : (asked events ≡ []) ⊎ ((rest : List Command) × AllByRecursion (Adds c) rest × (asked events ≡ command.New c ∷ rest))
    there : IsLogThen (sent events)

  -- of a run from where the channel is to be made
  after_absent : (run more : List Event) (last : Phase) → Runs c Making run last → IsOfPhase c last more → AfterAbsent (run ++ more)
  after_absent [] [] last runs of = record { here = inl refl; there = inl refl }
  after_absent [] (Here x r ∷ []) last runs of =
      record { here = inr ([], tt, ap (λ y. y ∷ []) (subst (λ p. Asks c p x) runs of)); there = inl refl }
  after_absent [] (There x r ∷ []) last runs of = absurd (subst (λ p. Requests c p x) runs of)
  after_absent [] (Here x r ∷ e ∷ more) last runs of = absurd of
  after_absent [] (There x r ∷ e ∷ more) last runs of = absurd of
  after_absent (There x r ∷ run) more last runs of = absurd runs.1
  after_absent (Here x r ∷ run) more last runs of =
      let rest = after_own [] run more last (subst (λ p. Runs c p run last) runs.1.2 runs.2) of in
      record { here = inr (asked (run ++ more), rest.here, ap (λ y. y ∷ asked (run ++ more)) runs.1.0); there = rest.there }

  -- a list that adds adds at each place
  logs_then : (xs : List Command) → IsLogThen xs → OnlyAdds c xs
  logs_then xs (inl none) = inl none
  logs_then xs (inr t) = inr (t.0, All-from_recursion (Adds c) t.0 t.1, inl t.2)

  -- the log here, and what comes behind it where the channel is not there
  after_absent_log : (x : Command) (xs : List Command) → x ≡ command.Log c →
      (xs ≡ []) ⊎ ((rest : List Command) × AllByRecursion (Adds c) rest × (xs ≡ command.New c ∷ rest)) → OnlyAdds c (x ∷ xs)
  after_absent_log x xs is (inl none) = inr ([], All-from_recursion (Adds c) [] tt, inl (λ i. is i ∷ none i))
  after_absent_log x xs is (inr t) = inr (t.0, All-from_recursion (Adds c) t.0 t.1, inr (λ i. is i ∷ t.2 i))

  -- of a run from its beginning on
  adds : (run more : List Event) (last : Phase) → Runs c Asking run last → IsOfPhase c last more →
      OnlyAdds c (asked (run ++ more)) × OnlyAdds c (sent (run ++ more))
  adds [] [] last runs of = (inl refl, inl refl)
  adds [] (Here x r ∷ []) last runs of =
      (inr ([], All-from_recursion (Adds c) [] tt, inl (ap (λ y. y ∷ []) (subst (λ p. Asks c p x) runs of))), inl refl)
  adds [] (There x r ∷ []) last runs of = absurd (subst (λ p. Requests c p x) runs of)
  adds [] (Here x r ∷ e ∷ more) last runs of = absurd of
  adds [] (There x r ∷ e ∷ more) last runs of = absurd of
  adds (There x r ∷ run) more last runs of = absurd runs.1
  adds (Here x r ∷ run) more last runs of = elim runs.1.1 [
    | inl g ↦
        let rest = after_own g.0 run more last (subst (λ p. Runs c p run last) g.2 runs.2) of in (
          inr (asked (run ++ more), All-from_recursion (Adds c) (asked (run ++ more)) rest.here, inl (ap (λ y. y ∷ asked (run ++ more)) runs.1.0)),
          logs_then (sent (run ++ more)) rest.there,
        )
    | inr g ↦
        let rest = after_absent run more last (subst (λ p. Runs c p run last) g.1 runs.2) of in
        (after_absent_log x (asked (run ++ more)) runs.1.0 rest.here, logs_then (sent (run ++ more)) rest.there)
  ]

-- the law
pub only_grows : OnlyGrows
only_grows c s runs of = adds c s.run s.last s.phase runs of
