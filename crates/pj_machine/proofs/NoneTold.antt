-- A command that enters nothing is not replied as one that was entered.
use Rattle.std.proofs.Common.{◌≡◌, ℕ, false, List, refl, ◌∙◌, ap, inl, inr, Some, None, Ok, Err}
use Rattle.std.specs.Prelude.{Option, Result, MatchOption, length, map}
use Rattle.pj_name.specs.declared.name.Name.{Name}
use Rattle.pj_change.specs.declared.change.Record.{Record}
use Rattle.pj_change.specs.declared.graph.Graph.{Graph}
use Rattle.pj_change.specs.declared.refusals.Applied.{Applied}
use Rattle.pj_change.specs.declared.refusals.Applied.TheVariants as applied
use Rattle.pj_change.specs.declared.refusals.ApplyRefusal.{ApplyRefusal}
use Rattle.pj_change.specs.declared.refusals.ApplyRefusal.TheVariants as apply
use Rattle.pj_change.specs.declared.refusals.PrintRefusal.{PrintRefusal}
use Rattle.pj_change.specs.declared.refusals.PrintRefusal.TheVariants as print
use Rattle.pj_change.specs.declared.refusals.UnrecordRefusal.{UnrecordRefusal}
use Rattle.pj_change.specs.declared.refusals.UnrecordRefusal.TheVariants as unrecord
use Rattle.pj_change.specs.declared.refusals.UprootRefusal.{UprootRefusal}
use Rattle.pj_change.specs.declared.refusals.UprootRefusal.TheVariants as uproot
use Rattle.pj_change.specs.Apply.{IsApplyAnswer}
use Rattle.pj_change.specs.Graph.{IsGraph}
use Rattle.pj_change.specs.Lawful.{record_of}
use Rattle.pj_change.specs.Printing.{IsPrintAnswer}
use Rattle.pj_change.specs.Unrecord.{IsUnrecordAnswer}
use Rattle.pj_change.specs.Uprooting.{IsUprootAnswer}
use Rattle.pj_machine.specs.declared.channel_name.ChannelName.{ChannelName}
use Rattle.pj_machine.specs.declared.command.Command.{Command}
use Rattle.pj_machine.specs.declared.command.Command.TheVariants as command
use Rattle.pj_machine.specs.declared.command.Write.{Write}
use Rattle.pj_machine.specs.declared.command.Write.TheVariants as write
use Rattle.pj_machine.specs.declared.journal.Entry.{Entry}
use Rattle.pj_machine.specs.declared.limits.Limits.{Limits}
use Rattle.pj_machine.specs.declared.reply.Numbered.TheVariants.{At}
use Rattle.pj_machine.specs.declared.reply.Reply.{Reply}
use Rattle.pj_machine.specs.declared.reply.Reply.TheVariants.{Done, Already, AlreadyNamed, No}
use Rattle.pj_machine.specs.declared.reply.Refusal.TheVariants as refusal
use Rattle.pj_machine.specs.Answer as answer
use Rattle.pj_machine.specs.GraphText.{graph_text}
use Rattle.pj_machine.specs.Listings.{log_text}
use Rattle.pj_machine.specs.Outcome.{Outcome, says, gives, enters, Unless}
use Rattle.pj_machine.specs.State.{State, list_of}
use Rattle.pj_machine.specs.Told.{is_entered}

-- ---- fair outcomes

-- the reply is not that to a write that was entered, at any place
abbrev IsOther : Reply → Type 0
IsOther reply = (place : ℕ) → is_entered (At place reply) ≡ false

-- with no write comes another reply
abbrev IsFair : Outcome → Type 0
IsFair o = o.entered ≡ None → IsOther o.reply

-- each outcome of these is fair
abbrev AllFair : (Outcome → Type 0) → Type 0
AllFair P = (o : Outcome) → P o → IsFair o

says_fair : (reply : Reply) → IsOther reply → AllFair (λ o. o ≡ says reply)
says_fair reply other o e none place = ap (λ (p : Outcome). is_entered (At place p.reply)) e ∙ other place

enters_fair : (reply : Reply) (w : Write) → AllFair (λ o. o ≡ enters reply w)
enters_fair reply w o e none = absurd (let some : o.entered ≡ Some w = ap (λ (p : Outcome). p.entered) e in cc)

unless_fair : (cause : Type 0) (reply : Reply) (rest : Outcome → Type 0) → IsOther reply → AllFair rest → AllFair (Unless cause reply rest)
unless_fair cause reply rest other fair o (inl a) = says_fair reply other o a.1
unless_fair cause reply rest other fair o (inr a) = fair o a.1

found_fair : {X : Type 0} (found : Option X) (missing : Reply) (rest : X → Outcome → Type 0) → IsOther missing → ((x : X) → AllFair (rest x)) →
    AllFair (λ o. MatchOption found (o ≡ says missing) (λ x. rest x o))
found_fair None missing rest other fair o h = says_fair missing other o h
found_fair (Some x) missing rest other fair o h = fair x o h

writes_fair : (limits : Limits) (entries : ℕ) (reply : Reply) (w : Write) → AllFair (answer.Writes limits entries reply w)
writes_fair limits entries reply w = unless_fair _ _ (λ o. o ≡ enters reply w) (λ place. refl) (enters_fair reply w)

makes_fair : (limits : Limits) (s : State) (entries : ℕ) (name : ChannelName) (w : Write) → AllFair (answer.Makes limits s entries name w)
makes_fair limits s entries name w = unless_fair _ _ _ (λ place. refl) (unless_fair _ _ _ (λ place. refl) (writes_fair limits entries Done w))

-- ---- what channels answer

applied_fair : (limits : Limits) (entries : ℕ) (w : Write) (r : Result (Applied (List Record)) ApplyRefusal) → AllFair (answer.AsApplied limits entries w r)
applied_fair limits entries w (Ok applied.Already) o h = says_fair Already (λ place. refl) o h
applied_fair limits entries w (Ok (applied.New after)) o h = writes_fair limits entries Done w o h
applied_fair limits entries w (Err (apply.Needs name)) o h = says_fair _ (λ place. refl) o h
applied_fair limits entries w (Err (apply.Context k)) o h = says_fair _ (λ place. refl) o h
applied_fair limits entries w (Err apply.Memory) o h = absurd h

unrecorded_fair : (limits : Limits) (entries : ℕ) (w : Write) (r : Result (List Record) UnrecordRefusal) → AllFair (answer.AsUnrecorded limits entries w r)
unrecorded_fair limits entries w (Ok after) o h = writes_fair limits entries Done w o h
unrecorded_fair limits entries w (Err unrecord.Absent) o h = says_fair _ (λ place. refl) o h
unrecorded_fair limits entries w (Err (unrecord.Held name)) o h = says_fair _ (λ place. refl) o h
unrecorded_fair limits entries w (Err unrecord.Memory) o h = absurd h

uprooted_fair : (limits : Limits) (entries : ℕ) (w : Write) (r : Result (List Record) UprootRefusal) → AllFair (answer.AsUprooted limits entries w r)
uprooted_fair limits entries w (Ok after) o h = writes_fair limits entries Done w o h
uprooted_fair limits entries w (Err uproot.Absent) o h = says_fair _ (λ place. refl) o h
uprooted_fair limits entries w (Err uproot.Memory) o h = absurd h

printed_fair : (r : Result (List ℕ) PrintRefusal) → AllFair (answer.AsPrinted r)
printed_fair (Ok bytes) o h = says_fair _ (λ place. refl) o h
printed_fair (Err (print.Wide inode)) o h = says_fair _ (λ place. refl) o h
printed_fair (Err print.Memory) o h = absurd h

in_channel_fair : (s : State) (name : ChannelName) (rest : List Record → Outcome → Type 0) → ((list : List Record) → AllFair (rest list)) →
    AllFair (answer.InChannel s name rest)
in_channel_fair s name rest fair = found_fair (list_of s name) (No refusal.Channel) rest (λ place. refl) fair

in_store_fair : (s : State) (change : Name) (rest : Record → Outcome → Type 0) → ((r : Record) → AllFair (rest r)) →
    AllFair (answer.InStore s change rest)
in_store_fair s change rest fair = found_fair (record_of s.store change) (No refusal.Change) rest (λ place. refl) fair

-- what is looked up for a change of a channel, and what its list answers
change_fair : {T E : Type 0} (s : State) (name : ChannelName) (change : Name) (Is : List Record → Record → Result T E → Type 0)
    (As : Result T E → Outcome → Type 0) → ((y : Result T E) → AllFair (As y)) →
    AllFair (answer.InChannel s name (λ list. answer.InStore s change (λ r o. (y : Result T E) × Is list r y × As y o)))
change_fair s name change Is As fair =
    in_channel_fair s name (λ list. answer.InStore s change (λ r o. (y : Result _ _) × Is list r y × As y o)) (λ list.
    in_store_fair s change (λ r o. (y : Result _ _) × Is list r y × As y o) (λ r o h. fair h.0 o h.2))

-- ---- the table

puts_fair : (limits : Limits) (s : State) (entries : ℕ) (text : List ℕ) → AllFair (answer.Puts limits s entries text)
puts_fair limits s entries text o (inl a) = says_fair _ (λ place. refl) o a.1
puts_fair limits s entries text o (inr a) =
    unless_fair _ (AlreadyNamed a.0.name) _ (λ place. refl) (unless_fair _ _ _ (λ place. refl) (unless_fair _ _ _ (λ place. refl)
    (writes_fair limits entries _ _))) o a.2

inverts_fair : (r : Record) → AllFair (answer.InvertsChange r)
inverts_fair r o (inl a) = says_fair _ (λ place. refl) o a.2
inverts_fair r o (inr a) = says_fair _ (λ place. refl) o a.3

answers_fair : (limits : Limits) (s : State) (journal : List Entry) (x : Command) → AllFair (answer.AnswersIn limits s journal x)
answers_fair limits s journal (command.Put text) = puts_fair limits s (length journal) text
answers_fair limits s journal (command.Get name) = in_store_fair s name (λ r o. o ≡ gives r.text) (λ r. says_fair _ (λ place. refl))
answers_fair limits s journal (command.Inverse name) = in_store_fair s name answer.InvertsChange inverts_fair
answers_fair limits s journal (command.New name) = makes_fair limits s (length journal) name (write.New name)
answers_fair limits s journal (command.Fork from to) =
    let w = write.Fork from to in
    in_channel_fair s from (λ list. answer.Makes limits s (length journal) to w) (λ list. makes_fair limits s (length journal) to w)
answers_fair limits s journal (command.Drop name) =
    let w = write.Drop name in
    in_channel_fair s name (λ list. answer.Writes limits (length journal) Done w) (λ list. writes_fair limits (length journal) Done w)
answers_fair limits s journal (command.Apply name change) =
    let w = write.Apply name change in
    change_fair s name change IsApplyAnswer (answer.AsApplied limits (length journal) w) (applied_fair limits (length journal) w)
answers_fair limits s journal (command.Unrecord name change) =
    let w = write.Unrecord name change in
    change_fair s name change (λ list r. IsUnrecordAnswer list change) (answer.AsUnrecorded limits (length journal) w)
    (unrecorded_fair limits (length journal) w)
answers_fair limits s journal (command.Uproot name change) =
    let w = write.Uproot name change in
    change_fair s name change (λ list r. IsUprootAnswer list change) (answer.AsUprooted limits (length journal) w) (uprooted_fair limits (length journal) w)
answers_fair limits s journal (command.Pull into from) =
    let w = write.Pull into from in
    in_channel_fair s into (λ list. answer.InChannel s from (λ other. answer.Writes limits (length journal) Done w)) (λ list.
    in_channel_fair s from (λ other. answer.Writes limits (length journal) Done w) (λ other. writes_fair limits (length journal) Done w))
answers_fair limits s journal (command.Graph name) =
    in_channel_fair s name (λ list o. (g : Graph) × IsGraph list g × (o ≡ gives (graph_text g))) (λ list o h. says_fair _ (λ place. refl) o h.2)
answers_fair limits s journal (command.Print name) =
    in_channel_fair s name (λ list o. (r : Result (List ℕ) PrintRefusal) × IsPrintAnswer list limits.live r × answer.AsPrinted r o)
    (λ list o h. printed_fair h.0 o h.2)
answers_fair limits s journal (command.Log name) =
    in_channel_fair s name (λ list o. o ≡ gives (log_text (map (λ r. r.name) list))) (λ list. says_fair _ (λ place. refl))
answers_fair limits s journal command.Channels = λ o h. says_fair _ (λ place. refl) o h.2
answers_fair limits s journal command.Journal = λ o h. says_fair _ (λ place. refl) o h
answers_fair limits s journal command.Quit = λ o h. absurd h

pub none_told : (limits : Limits) (journal : List Entry) (x : Command) (place : ℕ) (reply : Reply) → answer.IsAnswer limits journal x reply None →
    is_entered (At place reply) ≡ false
none_told limits journal x place reply a = answers_fair limits a.state journal x _ a.answers refl place
