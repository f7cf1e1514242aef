-- What an exchange counts: the changes that were applied.
use Rattle.std.proofs.Common.{◌≡◌, ℕ, Bool, true, false, cond, filter, length, List, [], ◌∷◌, refl, sym, ◌∙◌, ap, subst, inl, inr, arith}
use Rattle.pj_name.specs.declared.name.Name.{Name}
use Rattle.pj_name.specs.Name.{name_of}
use Rattle.pj_machine.specs.declared.channel_name.ChannelName.{ChannelName}
use Rattle.pj_machine.specs.declared.command.Command.{Command}
use Rattle.pj_machine.specs.declared.command.Command.TheVariants as command
use Rattle.pj_machine.specs.declared.journal.Entry.{Entry}
use Rattle.pj_machine.specs.declared.reply.Numbered.{Numbered}
use Rattle.pj_machine.specs.declared.reply.Numbered.TheVariants.{At}
use Rattle.pj_machine.specs.declared.reply.Refusal.TheVariants as refusal
use Rattle.pj_machine.specs.declared.reply.Reply.TheVariants.{Done, Named, Already, AlreadyNamed, Body, No}
use Rattle.pj_machine.specs.Call.{entries_of}
use Rattle.pj_machine.specs.Entries.{commands}
use Rattle.pj_machine.specs.Legal.{command_of}
use Rattle.pj_machine.specs.Listings.{log_text}
use Rattle.pj_session.specs.Entering.{accepted}
use Rattle.pj_session.proofs.Accepting.{enters_accepted}
use Rattle.pj_exchange.specs.Ends.{given_of, is_application, taken_of}
use Rattle.pj_exchange.specs.Events.{Event, Here, There, asked, told, sent}
use Rattle.pj_exchange.specs.Laws.{CountsApplications}
use Rattle.pj_exchange.specs.Phases.{Phase, Asking, Making, Listing, Getting, Storing, Applying, Giving, Sending, Offering, Over, Goes, Runs, SaysApplied, SaysStored}

-- what is counted of the commands is counted of the entries
counted_commands : (entries : List Entry) → length (filter is_application (commands entries)) ≡ length
    (filter (λ (e : Entry). is_application (command_of e.write)) entries)
counted_commands [] = refl
counted_commands (e ∷ entries) = go (is_application (command_of e.write)) (counted_commands entries)
  where
    go : (b : Bool) → length (filter is_application (commands entries)) ≡ length (filter (λ (d : Entry). is_application (command_of d.write)) entries) →
        length (cond b (command_of e.write ∷ filter is_application (commands entries)) (filter is_application (commands entries)))
        ≡ length (cond b (e ∷ filter (λ (d : Entry). is_application (command_of d.write)) entries)
        (filter (λ (d : Entry). is_application (command_of d.write)) entries))
    go true same = omega arith
    go false same = same

-- what is counted here is counted of what was accepted
abbrev Counts : List Event → Type 0
Counts run = taken_of run ≡ length (filter is_application (accepted (asked run) (told run)))

module _ (c : ChannelName) (run : List Event) (rest : Counts run) where
  -- the same with one event more
  counts_as : (x y : Command) (r q : Numbered) → x ≡ y → r ≡ q → Counts (Here y q ∷ run) → Counts (Here x r ∷ run)
  counts_as x y r q is same h = subst (λ z. Counts (Here z r ∷ run)) (sym is) (subst (λ z. Counts (Here y z ∷ run)) (sym same) h)

  -- a change that was applied now is one more
  applied_counts : (n : Name) (x : Command) (r : Numbered) → x ≡ command.Apply c n → SaysApplied r → Counts (Here x r ∷ run)
  unfolding taken_of
  applied_counts n x r is (inl says) = counts_as x (command.Apply c n) r (At says.0 Done) is says.1 (omega (arith, rest))
  applied_counts n x r is (inr says) = counts_as x (command.Apply c n) r (At says.0 Already) is says.1 rest

  -- a text that was stored is none
  stored_counts : (text : List ℕ) (x : Command) (r : Numbered) → x ≡ command.Put text → SaysStored text r → Counts (Here x r ∷ run)
  unfolding taken_of
  stored_counts text x r is (inl says) = counts_as x (command.Put text) r (At says.0 (Named (name_of text))) is says.1 rest
  stored_counts text x r is (inr says) = counts_as x (command.Put text) r (At says.0 (AlreadyNamed (name_of text))) is says.1 rest

  -- each event
  event_counts : (phase : Phase) (x : Command) (r : Numbered) (next : Phase) → Goes c phase (Here x r) next → Counts (Here x r ∷ run)
  unfolding taken_of
  event_counts Asking x r next goes = elim goes.1 [
    | inl g ↦ counts_as x (command.Log c) r (At g.1.0 (Body (log_text g.0))) goes.0 g.1.1 rest
    | inr g ↦ counts_as x (command.Log c) r (At g.0.0 (No refusal.Channel)) goes.0 g.0.1 rest
  ]
  event_counts Making x r next goes = counts_as x (command.New c) r (At goes.1.0 Done) goes.0 goes.1.1 rest
  event_counts (Listing names) x r next goes = absurd goes
  event_counts (Getting n ns offer) x r next goes = absurd goes
  event_counts (Storing n text ns offer) x r next goes = stored_counts text x r goes.0 goes.1
  event_counts (Applying n ns offer) x r next goes = applied_counts n x r goes.0 goes.1
  event_counts (Giving n ns) x r next goes = counts_as x (command.Get n) r (At goes.1.1.0 (Body goes.1.0)) goes.0 goes.1.1.1 rest
  event_counts (Sending n text ns) x r next goes = absurd goes
  event_counts (Offering n ns) x r next goes = absurd goes
  event_counts Over x r next goes = absurd goes

-- all events
run_counts : (c : ChannelName) (phase : Phase) (run : List Event) (last : Phase) → Runs c phase run last → Counts run
unfolding taken_of
run_counts c phase [] last runs = refl
run_counts c phase (Here x r ∷ run) last runs = event_counts c run (run_counts c runs.0 run last runs.2) phase x r runs.0 runs.1
run_counts c phase (There x r ∷ run) last runs = run_counts c runs.0 run last runs.2

-- what is counted there
given_counts : (run : List Event) → given_of run ≡ length (filter is_application (sent run))
unfolding given_of
given_counts [] = refl
given_counts (Here x r ∷ run) = given_counts run
given_counts (There x r ∷ run) = go x (given_counts run)
  where
    go : (x : Command) → given_of run ≡ length (filter is_application (sent run)) →
        given_of (There x r ∷ run) ≡ length (filter is_application (sent (There x r ∷ run)))
    go (command.Apply name change) rest = omega (arith, rest)
    go x rest = rest

-- the law
pub counts_applications : CountsApplications
counts_applications c run phase limits journal pass runs spoke = (
  run_counts c Asking run phase runs
      ∙ ap (λ (l : List Command). length (filter is_application l)) (sym (enters_accepted limits journal pass (asked run) (told run) spoke))
      ∙ counted_commands (entries_of pass journal),
  given_counts run,
)
