-- What is refused is not entered, and what is entered is what was asked for and replied.
use Rattle.std.proofs.Common.{◌≡◌, ℕ, List, refl, sym, ◌∙◌, ap, subst, inl, inr, Some, None, Ok, Err}
use Rattle.std.specs.Prelude.{Option, Result, MatchOption, length, map}
use Rattle.pj_name.specs.declared.name.Name.{Name}
use Rattle.pj_change.specs.declared.change.Record.{Record}
use Rattle.pj_change.specs.declared.refusals.Applied.{Applied}
use Rattle.pj_change.specs.declared.refusals.Applied.TheVariants as applied
use Rattle.pj_change.specs.declared.refusals.ApplyRefusal.{ApplyRefusal}
use Rattle.pj_change.specs.declared.refusals.ApplyRefusal.TheVariants as apply
use Rattle.pj_change.specs.declared.refusals.UnrecordRefusal.{UnrecordRefusal}
use Rattle.pj_change.specs.declared.refusals.UnrecordRefusal.TheVariants as unrecord
use Rattle.pj_change.specs.declared.refusals.UprootRefusal.{UprootRefusal}
use Rattle.pj_change.specs.declared.refusals.UprootRefusal.TheVariants as uproot
use Rattle.pj_change.specs.declared.refusals.PrintRefusal.{PrintRefusal}
use Rattle.pj_change.specs.declared.refusals.PrintRefusal.TheVariants as print
use Rattle.pj_change.specs.declared.graph.Graph.{Graph}
use Rattle.pj_change.specs.Apply.{IsApplyAnswer}
use Rattle.pj_change.specs.Graph.{IsGraph}
use Rattle.pj_change.specs.Lawful.{record_of}
use Rattle.pj_change.specs.Printing.{IsPrintAnswer}
use Rattle.pj_change.specs.Unrecord.{IsUnrecordAnswer}
use Rattle.pj_change.specs.Uprooting.{IsUprootAnswer}
use Rattle.pj_machine.specs.declared.channel_name.ChannelName.{ChannelName}
use Rattle.pj_machine.specs.declared.command.Command.{Command}
use Rattle.pj_machine.specs.declared.command.Command.TheVariants as command
use Rattle.pj_machine.specs.declared.command.Write.{Write}
use Rattle.pj_machine.specs.declared.command.Write.TheVariants as write
use Rattle.pj_machine.specs.declared.journal.Entry.{Entry}
use Rattle.pj_machine.specs.declared.limits.Limits.{Limits}
use Rattle.pj_machine.specs.declared.reply.Reply.{Reply}
use Rattle.pj_machine.specs.declared.reply.Reply.TheVariants.{Done, Named, No}
use Rattle.pj_machine.specs.declared.reply.Refusal.{Refusal}
use Rattle.pj_machine.specs.declared.reply.Refusal.TheVariants as refusal
use Rattle.pj_machine.specs.Answer
use Rattle.pj_machine.specs.GraphText.{graph_text}
use Rattle.pj_machine.specs.Laws.{reply_of}
use Rattle.pj_machine.specs.Legal.{command_of}
use Rattle.pj_machine.specs.Listings.{log_text}
use Rattle.pj_machine.specs.Outcome.{Outcome, says, gives, enters, Unless}
use Rattle.pj_machine.specs.State.{State, list_of}

-- ---- fair outcomes

-- a refusal has no write, and a write is that of the command, with its reply
record IsFair (x : Command) (o : Outcome) : Type 0 where
  refused : (refusal : Refusal) → o.reply ≡ No refusal → o.entered ≡ None
  entered : (w : Write) → o.entered ≡ Some w → (command_of w ≡ x) × (o.reply ≡ reply_of w)

-- each outcome of these is fair
abbrev AllFair : Command → (Outcome → Type 0) → Type 0
AllFair x P = (o : Outcome) → P o → IsFair x o

no_refusal : (w : Write) (refusal : Refusal) → reply_of w ≡ No refusal → ⊥
no_refusal (write.Put r) refusal e = cc
no_refusal (write.New name) refusal e = cc
no_refusal (write.Fork from to) refusal e = cc
no_refusal (write.Drop name) refusal e = cc
no_refusal (write.Apply name change) refusal e = cc
no_refusal (write.Unrecord name change) refusal e = cc
no_refusal (write.Uproot name change) refusal e = cc
no_refusal (write.Pull into from) refusal e = cc

module _ (x : Command) where
  says_fair : (reply : Reply) (o : Outcome) → o ≡ says reply → IsFair x o
  says_fair reply o e = record {
    refused = λ refusal h. ap (λ (p : Outcome). p.entered) e;
    entered = λ w h. absurd (let none : o.entered ≡ None = ap (λ (p : Outcome). p.entered) e in cc);
  }

  enters_fair : (reply : Reply) (w : Write) (o : Outcome) → command_of w ≡ x → reply ≡ reply_of w → o ≡ enters reply w → IsFair x o
  enters_fair reply w o asked told e = record {
    refused = λ refusal h. absurd (no_refusal w refusal (sym told ∙ sym (ap (λ (p : Outcome). p.reply) e) ∙ h));
    entered = λ v h.
        let same : w ≡ v = (let k : Some w ≡ Some v = sym (ap (λ (p : Outcome). p.entered) e) ∙ h in cc) in
        (ap command_of (sym same) ∙ asked, ap (λ (p : Outcome). p.reply) e ∙ told ∙ ap reply_of same);
  }

  unless_fair : (cause : Type 0) (reply : Reply) (rest : Outcome → Type 0) → AllFair x rest → AllFair x (Unless cause reply rest)
  unless_fair cause reply rest fair o (inl a) = says_fair reply o a.1
  unless_fair cause reply rest fair o (inr a) = fair o a.1

  found_fair : {X : Type 0} (found : Option X) (missing : Reply) (rest : X → Outcome → Type 0) → ((it : X) → AllFair x (rest it)) →
      AllFair x (λ o. MatchOption found (o ≡ says missing) (λ it. rest it o))
  found_fair None missing rest fair o h = says_fair missing o h
  found_fair (Some it) missing rest fair o h = fair it o h

  writes_fair : (limits : Limits) (entries : ℕ) (reply : Reply) (w : Write) → command_of w ≡ x → reply ≡ reply_of w → AllFair x (Answer.Writes limits entries reply w)
  writes_fair limits entries reply w asked told = unless_fair _ _ (λ o. o ≡ enters reply w) (λ o h. enters_fair reply w o asked told h)

  makes_fair : (limits : Limits) (s : State) (entries : ℕ) (name : ChannelName) (w : Write) → command_of w ≡ x → Done ≡ reply_of w → AllFair x (Answer.Makes limits s entries name w)
  makes_fair limits s entries name w asked told = unless_fair _ _ _ (unless_fair _ _ _ (writes_fair limits entries Done w asked told))

  applied_fair : (limits : Limits) (entries : ℕ) (w : Write) → command_of w ≡ x → Done ≡ reply_of w → (r : Result (Applied (List Record)) ApplyRefusal) → AllFair x (Answer.AsApplied limits entries w r)
  applied_fair limits entries w asked told (Ok applied.Already) o h = says_fair _ o h
  applied_fair limits entries w asked told (Ok (applied.New after)) o h = writes_fair limits entries Done w asked told o h
  applied_fair limits entries w asked told (Err (apply.Needs name)) o h = says_fair _ o h
  applied_fair limits entries w asked told (Err (apply.Context k)) o h = says_fair _ o h
  applied_fair limits entries w asked told (Err apply.Memory) o h = absurd h

  unrecorded_fair : (limits : Limits) (entries : ℕ) (w : Write) → command_of w ≡ x → Done ≡ reply_of w → (r : Result (List Record) UnrecordRefusal) → AllFair x (Answer.AsUnrecorded limits entries w r)
  unrecorded_fair limits entries w asked told (Ok after) o h = writes_fair limits entries Done w asked told o h
  unrecorded_fair limits entries w asked told (Err unrecord.Absent) o h = says_fair _ o h
  unrecorded_fair limits entries w asked told (Err (unrecord.Held name)) o h = says_fair _ o h
  unrecorded_fair limits entries w asked told (Err unrecord.Memory) o h = absurd h

  uprooted_fair : (limits : Limits) (entries : ℕ) (w : Write) → command_of w ≡ x → Done ≡ reply_of w → (r : Result (List Record) UprootRefusal) → AllFair x (Answer.AsUprooted limits entries w r)
  uprooted_fair limits entries w asked told (Ok after) o h = writes_fair limits entries Done w asked told o h
  uprooted_fair limits entries w asked told (Err uproot.Absent) o h = says_fair _ o h
  uprooted_fair limits entries w asked told (Err uproot.Memory) o h = absurd h

  printed_fair : (r : Result (List ℕ) PrintRefusal) → AllFair x (Answer.AsPrinted r)
  printed_fair (Ok bytes) o h = says_fair _ o h
  printed_fair (Err (print.Wide inode)) o h = says_fair _ o h
  printed_fair (Err print.Memory) o h = absurd h

  in_channel_fair : (s : State) (name : ChannelName) (rest : List Record → Outcome → Type 0) → ((list : List Record) → AllFair x (rest list)) → AllFair x (Answer.InChannel s name rest)
  in_channel_fair s name rest fair = found_fair (list_of s name) (No refusal.Channel) rest fair

  in_store_fair : (s : State) (change : Name) (rest : Record → Outcome → Type 0) → ((r : Record) → AllFair x (rest r)) → AllFair x (Answer.InStore s change rest)
  in_store_fair s change rest fair = found_fair (record_of s.store change) (No refusal.Change) rest fair

  -- what is looked up for a change of a channel, and what its list answers
  change_fair : {T E : Type 0} (s : State) (name : ChannelName) (change : Name) (Is : List Record → Record → Result T E → Type 0) (As : Result T E → Outcome → Type 0) →
      ((y : Result T E) → AllFair x (As y)) → AllFair x (Answer.InChannel s name (λ list. Answer.InStore s change (λ r o. (y : Result T E) × Is list r y × As y o)))
  change_fair s name change Is As fair =
      in_channel_fair s name (λ list. Answer.InStore s change (λ r o. (y : Result _ _) × Is list r y × As y o)) (λ list.
      in_store_fair s change (λ r o. (y : Result _ _) × Is list r y × As y o) (λ r o h. fair h.0 o h.2))

-- ---- the table

module _ (limits : Limits) (s : State) (entries : ℕ) where
  puts_change_fair : (r : Record) → AllFair (command.Put r.text) (Answer.PutsChange limits s entries r)
  puts_change_fair r =
      let x = command.Put r.text in
      unless_fair x _ _ _ (unless_fair x _ _ _ (unless_fair x _ _ _ (writes_fair x limits entries (Named r.name) (write.Put r) refl refl)))

  puts_fair : (text : List ℕ) → AllFair (command.Put text) (Answer.Puts limits s entries text)
  puts_fair text o (inl a) = says_fair (command.Put text) _ o a.1
  puts_fair text o (inr a) = subst (λ t. IsFair (command.Put t) o) a.1 (puts_change_fair a.0 o a.2)

inverts_fair : (x : Command) (r : Record) → AllFair x (Answer.InvertsChange r)
inverts_fair x r o (inl a) = says_fair x _ o a.2
inverts_fair x r o (inr a) = says_fair x _ o a.3

answers_fair : (limits : Limits) (s : State) (journal : List Entry) (x : Command) → AllFair x (Answer.AnswersIn limits s journal x)
answers_fair limits s journal (command.Put text) = puts_fair limits s (length journal) text
answers_fair limits s journal (command.Get name) = in_store_fair (command.Get name) s name (λ r o. o ≡ gives r.text) (λ r. says_fair (command.Get name) _)
answers_fair limits s journal (command.Inverse name) = in_store_fair (command.Inverse name) s name Answer.InvertsChange (inverts_fair (command.Inverse name))
answers_fair limits s journal (command.New name) = makes_fair (command.New name) limits s (length journal) name (write.New name) refl refl
answers_fair limits s journal (command.Fork from to) =
    let w = write.Fork from to in
    in_channel_fair (command.Fork from to) s from (λ list. Answer.Makes limits s (length journal) to w) (λ list. makes_fair (command.Fork from to) limits s (length journal) to w refl refl)
answers_fair limits s journal (command.Drop name) =
    let w = write.Drop name in
    in_channel_fair (command.Drop name) s name (λ list. Answer.Writes limits (length journal) Done w) (λ list. writes_fair (command.Drop name) limits (length journal) Done w refl refl)
answers_fair limits s journal (command.Apply name change) =
    let w = write.Apply name change in
    change_fair (command.Apply name change) s name change IsApplyAnswer (Answer.AsApplied limits (length journal) w) (applied_fair (command.Apply name change) limits (length journal) w refl refl)
answers_fair limits s journal (command.Unrecord name change) =
    let w = write.Unrecord name change in
    change_fair (command.Unrecord name change) s name change (λ list r. IsUnrecordAnswer list change) (Answer.AsUnrecorded limits (length journal) w)
    (unrecorded_fair (command.Unrecord name change) limits (length journal) w refl refl)
answers_fair limits s journal (command.Uproot name change) =
    let w = write.Uproot name change in
    change_fair (command.Uproot name change) s name change (λ list r. IsUprootAnswer list change) (Answer.AsUprooted limits (length journal) w)
    (uprooted_fair (command.Uproot name change) limits (length journal) w refl refl)
answers_fair limits s journal (command.Pull into from) =
    let x = command.Pull into from in
    let w = write.Pull into from in
    in_channel_fair x s into (λ list. Answer.InChannel s from (λ other. Answer.Writes limits (length journal) Done w)) (λ list.
    in_channel_fair x s from (λ other. Answer.Writes limits (length journal) Done w) (λ other. writes_fair x limits (length journal) Done w refl refl))
answers_fair limits s journal (command.Graph name) =
    in_channel_fair (command.Graph name) s name (λ list o. (g : Graph) × IsGraph list g × (o ≡ gives (graph_text g))) (λ list o h. says_fair (command.Graph name) _ o h.2)
answers_fair limits s journal (command.Print name) =
    in_channel_fair (command.Print name) s name (λ list o. (r : Result (List ℕ) PrintRefusal) × IsPrintAnswer list limits.live r × Answer.AsPrinted r o)
    (λ list o h. printed_fair (command.Print name) h.0 o h.2)
answers_fair limits s journal (command.Log name) =
    in_channel_fair (command.Log name) s name (λ list o. o ≡ gives (log_text (map (λ r. r.name) list))) (λ list. says_fair (command.Log name) _)
answers_fair limits s journal command.Channels = λ o h. says_fair command.Channels _ o h.2
answers_fair limits s journal command.Journal = λ o h. says_fair command.Journal _ o h
answers_fair limits s journal command.Quit = λ o h. absurd h

pub refused : (limits : Limits) (journal : List Entry) (x : Command) (refusal : Refusal) (entered : Option Write) → Answer.IsAnswer limits journal x (No refusal) entered → entered ≡ None
refused limits journal x refusal entered a = (answers_fair limits a.state journal x _ a.answers).refused refusal refl

pub entered : (limits : Limits) (journal : List Entry) (x : Command) (reply : Reply) (w : Write) → Answer.IsAnswer limits journal x reply (Some w) → (command_of w ≡ x) × (reply ≡ reply_of w)
entered limits journal x reply w a = (answers_fair limits a.state journal x _ a.answers).entered w refl
