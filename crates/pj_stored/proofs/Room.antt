-- What is entered had room in the journal.
use Rattle.std.proofs.Common.{◌≡◌, ◌∙◌, ℕ, ◌<◌, List, refl, sym, ap, inl, inr, Some, None, Ok, Err}
use Rattle.std.proofs.lemmas.Bool.{cases_lt}
use Rattle.std.specs.Prelude.{Option, Result, MatchOption, length, map}
use Rattle.pj_name.specs.declared.name.Name.{Name}
use Rattle.pj_change.specs.declared.change.Record.{Record}
use Rattle.pj_change.specs.declared.graph.Graph.{Graph}
use Rattle.pj_change.specs.declared.refusals.Applied.{Applied}
use Rattle.pj_change.specs.declared.refusals.Applied.TheVariants as applied
use Rattle.pj_change.specs.declared.refusals.ApplyRefusal.{ApplyRefusal}
use Rattle.pj_change.specs.declared.refusals.ApplyRefusal.TheVariants as apply
use Rattle.pj_change.specs.declared.refusals.PrintRefusal.{PrintRefusal}
use Rattle.pj_change.specs.declared.refusals.PrintRefusal.TheVariants as print
use Rattle.pj_change.specs.declared.refusals.UnrecordRefusal.{UnrecordRefusal}
use Rattle.pj_change.specs.declared.refusals.UnrecordRefusal.TheVariants as unrecord
use Rattle.pj_change.specs.declared.refusals.UprootRefusal.{UprootRefusal}
use Rattle.pj_change.specs.declared.refusals.UprootRefusal.TheVariants as uproot
use Rattle.pj_change.specs.Apply.{IsApplyAnswer}
use Rattle.pj_change.specs.Graph.{IsGraph}
use Rattle.pj_change.specs.Lawful.{record_of}
use Rattle.pj_change.specs.Printing.{IsPrintAnswer}
use Rattle.pj_change.specs.Unrecord.{IsUnrecordAnswer}
use Rattle.pj_change.specs.Uprooting.{IsUprootAnswer}
use Rattle.pj_machine.specs.declared.channel_name.ChannelName.{ChannelName}
use Rattle.pj_machine.specs.declared.command.Command.{Command}
use Rattle.pj_machine.specs.declared.command.Command.TheVariants as command
use Rattle.pj_machine.specs.declared.command.Write.{Write}
use Rattle.pj_machine.specs.declared.command.Write.TheVariants as write
use Rattle.pj_machine.specs.declared.journal.Entry.{Entry}
use Rattle.pj_machine.specs.declared.limits.Limits.{Limits}
use Rattle.pj_machine.specs.declared.reply.Reply.{Reply}
use Rattle.pj_machine.specs.declared.reply.Reply.TheVariants.{Done, Already, AlreadyNamed, No}
use Rattle.pj_machine.specs.declared.reply.Refusal.TheVariants as refusal
use Rattle.pj_machine.specs.Answer as answer
use Rattle.pj_machine.specs.GraphText.{graph_text}
use Rattle.pj_machine.specs.Listings.{log_text}
use Rattle.pj_machine.specs.Outcome.{Outcome, says, gives, Unless}
use Rattle.pj_machine.specs.State.{State, list_of}

-- ---- fair outcomes

module _ (limits : Limits) (entries : ℕ) where
  -- a write has room
  abbrev IsFair : Outcome → Type 0
  IsFair o = (w : Write) → o.entered ≡ Some w → entries < limits.entries

  -- each outcome of these is fair
  abbrev AllFair : (Outcome → Type 0) → Type 0
  AllFair P = (o : Outcome) → P o → IsFair o

  -- what enters nothing is fair
  says_fair : (reply : Reply) → AllFair (λ o. o ≡ says reply)
  says_fair reply o e w some = absurd (let none : o.entered ≡ None = ap (λ (p : Outcome). p.entered) e in let k : Some w ≡ None = sym some ∙ none in cc k)

  -- a refusal before a fair outcome
  unless_fair : (cause : Type 0) (reply : Reply) (rest : Outcome → Type 0) → AllFair rest → AllFair (Unless cause reply rest)
  unless_fair cause reply rest fair o (inl a) = says_fair reply o a.1
  unless_fair cause reply rest fair o (inr a) = fair o a.1

  -- an outcome by what was found
  found_fair : {X : Type 0} (found : Option X) (missing : Reply) (rest : X → Outcome → Type 0) → ((x : X) → AllFair (rest x)) →
      AllFair (λ o. MatchOption found (o ≡ says missing) (λ x. rest x o))
  found_fair None missing rest fair o h = says_fair missing o h
  found_fair (Some x) missing rest fair o h = fair x o h

  -- a write is refused where there is no room
  writes_fair : (reply : Reply) (v : Write) → AllFair (answer.Writes limits entries reply v)
  writes_fair reply v o (inl a) = says_fair _ o a.1
  writes_fair reply v o (inr a) = λ w some. elim (cases_lt entries limits.entries) [ inl less ↦ less | inr full ↦ absurd (a.0 full) ]

  -- a channel is made
  makes_fair : (s : State) (name : ChannelName) (w : Write) → AllFair (answer.Makes limits s entries name w)
  makes_fair s name w = unless_fair _ _ _ (unless_fair _ _ _ (writes_fair Done w))

  -- ---- what channels answer

  -- an application
  applied_fair : (w : Write) (r : Result (Applied (List Record)) ApplyRefusal) → AllFair (answer.AsApplied limits entries w r)
  applied_fair w (Ok applied.Already) o h = says_fair Already o h
  applied_fair w (Ok (applied.New after)) o h = writes_fair Done w o h
  applied_fair w (Err (apply.Needs name)) o h = says_fair _ o h
  applied_fair w (Err (apply.Context k)) o h = says_fair _ o h
  applied_fair w (Err apply.Memory) o h = absurd h

  -- an unrecord
  unrecorded_fair : (w : Write) (r : Result (List Record) UnrecordRefusal) → AllFair (answer.AsUnrecorded limits entries w r)
  unrecorded_fair w (Ok after) o h = writes_fair Done w o h
  unrecorded_fair w (Err unrecord.Absent) o h = says_fair _ o h
  unrecorded_fair w (Err (unrecord.Held name)) o h = says_fair _ o h
  unrecorded_fair w (Err unrecord.Memory) o h = absurd h

  -- an uproot
  uprooted_fair : (w : Write) (r : Result (List Record) UprootRefusal) → AllFair (answer.AsUprooted limits entries w r)
  uprooted_fair w (Ok after) o h = writes_fair Done w o h
  uprooted_fair w (Err uproot.Absent) o h = says_fair _ o h
  uprooted_fair w (Err uproot.Memory) o h = absurd h

  -- a print
  printed_fair : (r : Result (List ℕ) PrintRefusal) → AllFair (answer.AsPrinted r)
  printed_fair (Ok bytes) o h = says_fair _ o h
  printed_fair (Err (print.Wide inode)) o h = says_fair _ o h
  printed_fair (Err print.Memory) o h = absurd h

  -- what is asked of a channel
  in_channel_fair : (s : State) (name : ChannelName) (rest : List Record → Outcome → Type 0) → ((list : List Record) → AllFair (rest list)) →
      AllFair (answer.InChannel s name rest)
  in_channel_fair s name rest fair = found_fair (list_of s name) (No refusal.Channel) rest fair

  -- what is asked of a change
  in_store_fair : (s : State) (change : Name) (rest : Record → Outcome → Type 0) → ((r : Record) → AllFair (rest r)) →
      AllFair (answer.InStore s change rest)
  in_store_fair s change rest fair = found_fair (record_of s.store change) (No refusal.Change) rest fair

  -- what is looked up for a change of a channel, and what its list answers
  change_fair : {T E : Type 0} (s : State) (name : ChannelName) (change : Name) (Is : List Record → Record → Result T E → Type 0)
      (As : Result T E → Outcome → Type 0) → ((y : Result T E) → AllFair (As y)) →
      AllFair (answer.InChannel s name (λ list. answer.InStore s change (λ r o. (y : Result T E) × Is list r y × As y o)))
  change_fair s name change Is As fair =
      in_channel_fair s name (λ list. answer.InStore s change (λ r o. (y : Result _ _) × Is list r y × As y o)) (λ list.
      in_store_fair s change (λ r o. (y : Result _ _) × Is list r y × As y o) (λ r o h. fair h.0 o h.2))

-- ---- the table

-- each of these outcomes is fair
abbrev Fair : Limits → ℕ → (Outcome → Type 0) → Type 0
Fair limits entries P = (o : Outcome) → P o → IsFair limits entries o

-- a text is stored
puts_fair : (limits : Limits) (s : State) (entries : ℕ) (text : List ℕ) → Fair limits entries (answer.Puts limits s entries text)
puts_fair limits s entries text o (inl a) = says_fair limits entries _ o a.1
puts_fair limits s entries text o (inr a) =
    unless_fair limits entries _ (AlreadyNamed a.0.name) _ (unless_fair limits entries _ _ _
    (unless_fair limits entries _ _ _ (writes_fair limits entries _ _))) o a.2

-- a change is inverted
inverts_fair : (limits : Limits) (entries : ℕ) (r : Record) → Fair limits entries (answer.InvertsChange r)
inverts_fair limits entries r o (inl a) = says_fair limits entries _ o a.2
inverts_fair limits entries r o (inr a) = says_fair limits entries _ o a.3

module _ (limits : Limits) (s : State) (journal : List Entry) where
  -- how many entries there are
  abbrev n : ℕ
  n = length journal

  -- each command
  answers_fair : (x : Command) → Fair limits (length journal) (answer.AnswersIn limits s journal x)
  answers_fair (command.Put text) = puts_fair limits s n text
  answers_fair (command.Get name) = in_store_fair limits n s name (λ r o. o ≡ gives r.text) (λ r. says_fair limits n _)
  answers_fair (command.Inverse name) = in_store_fair limits n s name answer.InvertsChange (inverts_fair limits n)
  answers_fair (command.New name) = makes_fair limits n s name (write.New name)
  answers_fair (command.Fork from to) =
      let w = write.Fork from to in in_channel_fair limits n s from (λ list. answer.Makes limits s n to w) (λ list. makes_fair limits n s to w)
  answers_fair (command.Drop name) =
      let w = write.Drop name in in_channel_fair limits n s name (λ list. answer.Writes limits n Done w) (λ list. writes_fair limits n Done w)
  answers_fair (command.Apply name change) =
      let w = write.Apply name change in change_fair limits n s name change IsApplyAnswer (answer.AsApplied limits n w) (applied_fair limits n w)
  answers_fair (command.Unrecord name change) =
      let w = write.Unrecord name change in
      change_fair limits n s name change (λ list r. IsUnrecordAnswer list change) (answer.AsUnrecorded limits n w) (unrecorded_fair limits n w)
  answers_fair (command.Uproot name change) =
      let w = write.Uproot name change in
      change_fair limits n s name change (λ list r. IsUprootAnswer list change) (answer.AsUprooted limits n w) (uprooted_fair limits n w)
  answers_fair (command.Pull into from) =
      let w = write.Pull into from in
      in_channel_fair limits n s into (λ list. answer.InChannel s from (λ other. answer.Writes limits n Done w)) (λ list.
      in_channel_fair limits n s from (λ other. answer.Writes limits n Done w) (λ other. writes_fair limits n Done w))
  answers_fair (command.Graph name) =
      in_channel_fair limits n s name (λ list o. (g : Graph) × IsGraph list g × (o ≡ gives (graph_text g))) (λ list o h. says_fair limits n _ o h.2)
  answers_fair (command.Print name) =
      in_channel_fair limits n s name (λ list o. (r : Result (List ℕ) PrintRefusal) × IsPrintAnswer list limits.live r × answer.AsPrinted r o)
      (λ list o h. printed_fair limits n h.0 o h.2)
  answers_fair (command.Log name) =
      in_channel_fair limits n s name (λ list o. o ≡ gives (log_text (map (λ r. r.name) list))) (λ list. says_fair limits n _)
  answers_fair command.Channels = λ o h. says_fair limits n _ o h.2
  answers_fair command.Journal = λ o h. says_fair limits n _ o h
  answers_fair command.Quit = λ o h. absurd h

-- where a write is entered there are fewer entries than there may be
pub entered_room : (limits : Limits) (journal : List Entry) (x : Command) (reply : Reply) (w : Write) → answer.IsAnswer limits journal x reply (Some w) →
    length journal < limits.entries
entered_room limits journal x reply w a = answers_fair limits a.state journal x _ a.answers w refl
