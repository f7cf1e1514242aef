-- What one thread replies may come.
use Rattle.std.proofs.Common.{◌≡◌, ℕ, List, length, refl, sym, ◌∙◌, ap, subst, inl, inr, Some, None}
use Rattle.std.specs.Prelude.{◌≤◌, IsSome, map, Option, MatchOption, Result, Ok, Err}
use Rattle.pj_name.specs.declared.name.Name.{Name}
use Rattle.pj_name.specs.Name.{name_of}
use Rattle.pj_change.specs.declared.change.Record.{Record}
use Rattle.pj_change.specs.declared.refusals.Applied.{Applied}
use Rattle.pj_change.specs.declared.refusals.Applied.TheVariants as applied
use Rattle.pj_change.specs.declared.refusals.ApplyRefusal.{ApplyRefusal}
use Rattle.pj_change.specs.declared.refusals.ApplyRefusal.TheVariants as apply
use Rattle.pj_change.specs.declared.refusals.UnrecordRefusal.{UnrecordRefusal}
use Rattle.pj_change.specs.declared.refusals.UnrecordRefusal.TheVariants as unrecord
use Rattle.pj_change.specs.declared.refusals.UprootRefusal.{UprootRefusal}
use Rattle.pj_change.specs.declared.refusals.UprootRefusal.TheVariants as uproot
use Rattle.pj_change.specs.declared.refusals.PrintRefusal.{PrintRefusal}
use Rattle.pj_change.specs.declared.refusals.PrintRefusal.TheVariants as print
use Rattle.pj_machine.specs.declared.channel_name.ChannelName.{ChannelName}
use Rattle.pj_machine.specs.declared.command.Command.{Command}
use Rattle.pj_machine.specs.declared.command.Command.TheVariants as command
use Rattle.pj_machine.specs.declared.command.Write.{Write}
use Rattle.pj_machine.specs.declared.command.Write.TheVariants as write
use Rattle.pj_machine.specs.declared.journal.Entry.{Entry}
use Rattle.pj_machine.specs.declared.limits.Limits.{Limits}
use Rattle.pj_machine.specs.declared.reply.Refusal.{Refusal}
use Rattle.pj_machine.specs.declared.reply.Refusal.TheVariants as refusal
use Rattle.pj_machine.specs.declared.reply.Reply.{Reply}
use Rattle.pj_machine.specs.declared.reply.Reply.TheVariants.{Done, Named, Already, AlreadyNamed, Body, No}
use Rattle.pj_machine.specs.Answer.{IsAnswer, AnswersIn, HasText, HasOtherText, IsStoreFull, Writes, InChannel, InStore, Makes, AsApplied, AsUnrecorded, AsUprooted, AsPrinted, PutsChange, InvertsChange}
use Rattle.pj_change.specs.Parts.{spelling}
use Rattle.pj_change.specs.declared.graph.Graph.{Graph}
use Rattle.pj_change.specs.Graph.{IsGraph}
use Rattle.pj_change.specs.Apply.{IsApplyAnswer}
use Rattle.pj_change.specs.Printing.{IsPrintAnswer}
use Rattle.pj_change.specs.Unrecord.{IsUnrecordAnswer}
use Rattle.pj_change.specs.Uprooting.{IsUprootAnswer}
use Rattle.pj_machine.specs.GraphText.{graph_text}
use Rattle.pj_machine.specs.JournalText.{journal_text}
use Rattle.pj_machine.specs.Listings.{log_text, channels_text}
use Rattle.pj_machine.specs.Outcome.{Outcome, says, refuses, gives, Unless}
use Rattle.pj_machine.specs.State.{State, list_of}
use Rattle.pj_change.specs.Lawful.{record_of}
use Rattle.pj_replies.specs.MayCome.{MayRefuse, MayTell, MayCome}

-- ---- outcomes whose replies may come

-- the reply of the outcome may come to the command
abbrev Fits : Command → Outcome → Type 0
Fits x o = MayCome x o.reply

-- equal outcomes fit alike
fits_same : (x : Command) (o p : Outcome) → o ≡ p → Fits x p → Fits x o
fits_same x o p e h = subst (λ q. Fits x q) (sym e) h

-- a refusal fits where its reason may come
refused : (x : Command) (o : Outcome) (why : Refusal) → o ≡ refuses why → MayRefuse x why → Fits x o
refused x o why e h = fits_same x o (refuses why) e (inr (why, h, refl))

-- a cause with its reply, and else the rest: both fit
unless : (x : Command) (o : Outcome) (cause : Type 0) (reply : Reply) (rest : Outcome → Type 0) → MayCome x reply → ((p : Outcome) → rest p → Fits x p) → Unless cause reply rest o → Fits x o
unless x o cause reply rest may each u = elim u [ inl h ↦ fits_same x o (says reply) h.1 may | inr h ↦ each o h.1 ]

-- an entered write fits, and so does a full journal
writes : (x : Command) (limits : Limits) (n : ℕ) (reply : Reply) (w : Write) (o : Outcome) → MayTell x reply → MayRefuse x refusal.FullJournal → Writes limits n reply w o → Fits x o
writes x limits n reply w o tell full h = elim h [
  | inl k ↦ fits_same x o (says (No refusal.FullJournal)) k.1 (inr (refusal.FullJournal, full, refl))
  | inr k ↦ subst (λ q. Fits x q) (sym k.1) (inl tell)
]

-- what looks a channel up fits, also where there is none
in_channel : (x : Command) (s : State) (name : ChannelName) (rest : List Record → Outcome → Type 0) (o : Outcome) → MayRefuse x refusal.Channel
    → ((list : List Record) → rest list o → Fits x o) → InChannel s name rest o → Fits x o
in_channel x s name rest o channel each h = go (list_of s name) h
  where
    go : (found : Option (List Record)) → MatchOption found (o ≡ refuses refusal.Channel) (λ list. rest list o) → Fits x o
    go None e = refused x o refusal.Channel e channel
    go (Some list) k = each list k

-- what looks a change up fits, also where there is none
in_store : (x : Command) (s : State) (name : Name) (rest : Record → Outcome → Type 0) (o : Outcome) → MayRefuse x refusal.Change
    → ((r : Record) → rest r o → Fits x o) → InStore s name rest o → Fits x o
in_store x s name rest o change each h = go (record_of s.store name) h
  where
    go : (found : Option Record) → MatchOption found (o ≡ refuses refusal.Change) (λ r. rest r o) → Fits x o
    go None e = refused x o refusal.Change e change
    go (Some r) k = each r k

-- a body fits where it may be told
body : (x : Command) (o : Outcome) (bytes : List ℕ) → MayTell x (Body bytes) → o ≡ says (Body bytes) → Fits x o
body x o bytes tell e = fits_same x o (says (Body bytes)) e (inl tell)

-- ---- the table

-- an application
applied_fits : (limits : Limits) (n : ℕ) (name : ChannelName) (change : Name) (w : Write) (result : Result (Applied (List Record)) ApplyRefusal) (o : Outcome)
    → AsApplied limits n w result o → Fits (command.Apply name change) o
applied_fits limits n name change w (Ok applied.Already) o e = fits_same (command.Apply name change) o (says Already) e (inl (inr (inl refl)))
applied_fits limits n name change w (Ok (applied.New after)) o h = writes (command.Apply name change) limits n Done w o (inl refl) (inl (inr (inr (inl refl)))) h
applied_fits limits n name change w (Err (apply.Needs need)) o e = refused (command.Apply name change) o (refusal.Needs need) e (inr (inl (need, refl)))
applied_fits limits n name change w (Err (apply.Context k)) o e = refused (command.Apply name change) o (refusal.Context k) e (inr (inr (k, refl)))
applied_fits limits n name change w (Err apply.Memory) o e = absurd e

-- an unrecord
unrecorded_fits : (limits : Limits) (n : ℕ) (name : ChannelName) (change : Name) (w : Write) (result : Result (List Record) UnrecordRefusal) (o : Outcome)
    → AsUnrecorded limits n w result o → Fits (command.Unrecord name change) o
unrecorded_fits limits n name change w (Ok after) o h = writes (command.Unrecord name change) limits n Done w o refl (inl (inr (inr (inr (inl refl))))) h
unrecorded_fits limits n name change w (Err unrecord.Absent) o e = refused (command.Unrecord name change) o refusal.Absent e (inl (inr (inr (inl refl))))
unrecorded_fits limits n name change w (Err (unrecord.Held holder)) o e = refused (command.Unrecord name change) o (refusal.Held holder) e (inr (holder, refl))
unrecorded_fits limits n name change w (Err unrecord.Memory) o e = absurd e

-- an uproot
uprooted_fits : (limits : Limits) (n : ℕ) (name : ChannelName) (change : Name) (w : Write) (result : Result (List Record) UprootRefusal) (o : Outcome)
    → AsUprooted limits n w result o → Fits (command.Uproot name change) o
uprooted_fits limits n name change w (Ok after) o h = writes (command.Uproot name change) limits n Done w o refl (inr (inr (inr (inl refl)))) h
uprooted_fits limits n name change w (Err uproot.Absent) o e = refused (command.Uproot name change) o refusal.Absent e (inr (inr (inl refl)))
uprooted_fits limits n name change w (Err uproot.Memory) o e = absurd e

-- a print
printed_fits : (name : ChannelName) (result : Result (List ℕ) PrintRefusal) (o : Outcome) → AsPrinted result o → Fits (command.Print name) o
printed_fits name (Ok bytes) o e = body (command.Print name) o bytes (bytes, refl) e
printed_fits name (Err (print.Wide inode)) o e = refused (command.Print name) o (refusal.Wide inode) e (inr (inode, refl))
printed_fits name (Err print.Memory) o e = absurd e

-- a put of a text that is no malformed one
put_fits : (limits : Limits) (s : State) (n : ℕ) (text : List ℕ) (r : Record) → r.text ≡ text → (o : Outcome) → PutsChange limits s n r o → Fits (command.Put text) o
put_fits limits s n text r is o h =
    let named : r.name ≡ name_of text = r.named ∙ ap name_of is in
    unless (command.Put text) o (HasText s r.text) (AlreadyNamed r.name) _ (inl (inr (inl (ap AlreadyNamed named))))
    (λ p. unless (command.Put text) p (HasOtherText s r) (No refusal.Clash) _ (inr (refusal.Clash, inr (inl refl), refl))
    (λ q. unless (command.Put text) q (IsStoreFull limits s r.text) (No refusal.FullStore) _ (inr (refusal.FullStore, inr (inr (inl refl)), refl))
    (λ t. writes (command.Put text) limits n (Named r.name) (write.Put r) t (inl (ap Named named)) (inr (inr (inr (inl refl)))))))
    h

-- each answer of the table fits its command
pub answers : (limits : Limits) (s : State) (journal : List Entry) (x : Command) (o : Outcome) → AnswersIn limits s journal x o → MayCome x o.reply
answers limits s journal (command.Put text) o h = elim h [
  | inl k ↦ refused (command.Put text) o refusal.Malformed k.1 (inl refl)
  | inr k ↦ put_fits limits s (length journal) text k.0 k.1 o k.2
]
answers limits s journal (command.Get name) o h = in_store (command.Get name) s name (λ r p. p ≡ gives r.text) o refl (λ r k. body (command.Get name) o r.text (r.text, refl) k) h
answers limits s journal (command.Inverse name) o h = in_store (command.Inverse name) s name InvertsChange o (inl refl) (λ r k. elim k [
  | inl j ↦ refused (command.Inverse name) o (refusal.Inverse j.0) j.2 (inr (j.0, refl))
  | inr j ↦ body (command.Inverse name) o (spelling j.1) (spelling j.1, refl) j.3
]) h
answers limits s journal (command.New name) o h =
    unless (command.New name) o (IsSome (list_of s name)) (No refusal.Taken) _ (inr (refusal.Taken, inl refl, refl))
    (λ p. unless (command.New name) p (limits.channels ≤ length s.channels) (No refusal.FullChannels) _ (inr (refusal.FullChannels, inr (inl refl), refl))
    (λ q. writes (command.New name) limits (length journal) Done (write.New name) q refl (inr (inr (inl refl))))) h
answers limits s journal (command.Fork from to) o h = in_channel (command.Fork from to) s from (λ list. Makes limits s (length journal) to (write.Fork from to)) o (inl refl) (λ list k.
    unless (command.Fork from to) o (IsSome (list_of s to)) (No refusal.Taken) _ (inr (refusal.Taken, inr (inl refl), refl))
    (λ p. unless (command.Fork from to) p (limits.channels ≤ length s.channels) (No refusal.FullChannels) _ (inr (refusal.FullChannels, inr (inr (inl refl)), refl))
    (λ q. writes (command.Fork from to) limits (length journal) Done (write.Fork from to) q refl (inr (inr (inr (inl refl)))))) k) h
answers limits s journal (command.Drop name) o h = in_channel (command.Drop name) s name (λ list. Writes limits (length journal) Done (write.Drop name)) o (inl refl) (λ list k. writes (command.Drop name) limits (length journal) Done (write.Drop name) o refl (inr (inl refl)) k) h
answers limits s journal (command.Apply name change) o h = in_channel (command.Apply name change) s name (λ list. InStore s change (Applying list)) o (inl (inl refl))
    (λ list k. in_store (command.Apply name change) s change (Applying list) o (inl (inr (inl refl))) (λ r j. applied_fits limits (length journal) name change (write.Apply name change) j.0 o j.2) k) h
  where
    Applying : List Record → Record → Outcome → Type 0
    Applying list r p = (result : Result (Applied (List Record)) ApplyRefusal) × IsApplyAnswer list r result × AsApplied limits (length journal) (write.Apply name change) result p
answers limits s journal (command.Unrecord name change) o h = in_channel (command.Unrecord name change) s name (λ list. InStore s change (Leaving list)) o (inl (inl refl))
    (λ list k. in_store (command.Unrecord name change) s change (Leaving list) o (inl (inr (inl refl))) (λ r j. unrecorded_fits limits (length journal) name change (write.Unrecord name change) j.0 o j.2) k) h
  where
    Leaving : List Record → Record → Outcome → Type 0
    Leaving list r p = (result : Result (List Record) UnrecordRefusal) × IsUnrecordAnswer list change result × AsUnrecorded limits (length journal) (write.Unrecord name change) result p
answers limits s journal (command.Uproot name change) o h = in_channel (command.Uproot name change) s name (λ list. InStore s change (Leaving list)) o (inl refl)
    (λ list k. in_store (command.Uproot name change) s change (Leaving list) o (inr (inl refl)) (λ r j. uprooted_fits limits (length journal) name change (write.Uproot name change) j.0 o j.2) k) h
  where
    Leaving : List Record → Record → Outcome → Type 0
    Leaving list r p = (result : Result (List Record) UprootRefusal) × IsUprootAnswer list change result × AsUprooted limits (length journal) (write.Uproot name change) result p
answers limits s journal (command.Pull into from) o h = in_channel (command.Pull into from) s into (λ list. InChannel s from (λ other. Writes limits (length journal) Done (write.Pull into from))) o (inl refl) (λ list k.
    in_channel (command.Pull into from) s from (λ other. Writes limits (length journal) Done (write.Pull into from)) o (inl refl) (λ other j. writes (command.Pull into from) limits (length journal) Done (write.Pull into from) o refl (inr (inl refl)) j) k) h
answers limits s journal (command.Graph name) o h = in_channel (command.Graph name) s name (λ list p. (g : Graph) × IsGraph list g × (p ≡ gives (graph_text g))) o refl
    (λ list k. body (command.Graph name) o (graph_text k.0) (graph_text k.0, refl) k.2) h
answers limits s journal (command.Print name) o h = in_channel (command.Print name) s name (λ list p. (result : Result (List ℕ) PrintRefusal) × IsPrintAnswer list limits.live result × AsPrinted result p) o (inl refl)
    (λ list k. printed_fits name k.0 o k.2) h
answers limits s journal (command.Log name) o h = in_channel (command.Log name) s name (λ list p. p ≡ gives (log_text (map (λ r. r.name) list))) o refl
    (λ list k. body (command.Log name) o (log_text (map (λ r. r.name) list)) (log_text (map (λ r. r.name) list), refl) k) h
answers limits s journal command.Channels o h = body command.Channels o (channels_text h.0) (channels_text h.0, refl) h.2
answers limits s journal command.Journal o h = body command.Journal o (journal_text journal) (journal_text journal, refl) h
answers limits s journal command.Quit o h = absurd h

-- what the specification answers may come
pub answers_may_come : (limits : Limits) (journal : List Entry) (x : Command) (reply : Reply) (entered : Option Write) → IsAnswer limits journal x reply entered → MayCome x reply
answers_may_come limits journal x reply entered a = answers limits a.state journal x (record { reply = reply; entered = entered }) a.answers
