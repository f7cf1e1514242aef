-- What one thread answers to a command: the refusals of each command in their order, of which the first whose cause stands
-- is the reply, and what it replies and enters where none does. Want of memory stands outside: it may come in place of any answer.
use Rattle.std.specs.Prelude.{◌≡◌, ◌≢◌, ℕ, ◌+◌, ◌<◌, ◌≤◌, List, length, map, Contains, ◌⊎◌, Option, IsSome, MatchOption, Result, Ok, Err}
use Rattle.std.specs.List.{sum_by}
use Rattle.std.specs.Ordering.{on}
use Rattle.pj_name.specs.declared.name.Name.{Name}
use Rattle.pj_change.specs.declared.change.Change.{Change}
use Rattle.pj_change.specs.declared.change.Record.{Record}
use Rattle.pj_change.specs.declared.graph.Graph.{Graph}
use Rattle.pj_change.specs.declared.refusals.Applied.{Applied}
use Rattle.pj_change.specs.declared.refusals.Applied.TheVariants as applied
use Rattle.pj_change.specs.declared.refusals.ApplyRefusal.{ApplyRefusal}
use Rattle.pj_change.specs.declared.refusals.ApplyRefusal.TheVariants as apply
use Rattle.pj_change.specs.declared.refusals.UnrecordRefusal.{UnrecordRefusal}
use Rattle.pj_change.specs.declared.refusals.UnrecordRefusal.TheVariants as unrecord
use Rattle.pj_change.specs.declared.refusals.UprootRefusal.{UprootRefusal}
use Rattle.pj_change.specs.declared.refusals.UprootRefusal.TheVariants as uproot
use Rattle.pj_change.specs.declared.refusals.PrintRefusal.{PrintRefusal}
use Rattle.pj_change.specs.declared.refusals.PrintRefusal.TheVariants as print
use Rattle.pj_change.specs.Graph.{IsGraph, Lists}
use Rattle.pj_change.specs.Inverse.{IsInverse, IsFirstWithoutInverse}
use Rattle.pj_change.specs.Lawful.{record_of}
use Rattle.pj_change.specs.Parts.{spelling}
use Rattle.pj_change.specs.Apply.{IsApplyAnswer}
use Rattle.pj_change.specs.Printing.{IsPrintAnswer}
use Rattle.pj_change.specs.Unrecord.{IsUnrecordAnswer}
use Rattle.pj_change.specs.Uprooting.{IsUprootAnswer}
use Rattle.pj_machine.specs.declared.channel_name.ChannelName.{ChannelName}
use Rattle.pj_machine.specs.declared.command.Command.{Command}
use Rattle.pj_machine.specs.declared.command.Command.TheVariants as command
use Rattle.pj_machine.specs.declared.command.Write.{Write}
use Rattle.pj_machine.specs.declared.command.Write.TheVariants as write
use Rattle.pj_machine.specs.declared.journal.Entry.{Entry}
use Rattle.pj_machine.specs.declared.limits.Limits.{Limits}
use Rattle.pj_machine.specs.declared.listings.ChannelCount.{ChannelCount}
use Rattle.pj_machine.specs.declared.reply.Reply.{Reply}
use Rattle.pj_machine.specs.declared.reply.Reply.TheVariants.{Done, Named, Already, AlreadyNamed, No}
use Rattle.pj_machine.specs.declared.reply.Refusal.TheVariants as refusal
use Rattle.pj_machine.specs.ChannelName.{channel_cmp}
use Rattle.pj_machine.specs.GraphText.{graph_text}
use Rattle.pj_machine.specs.JournalText.{journal_text}
use Rattle.pj_machine.specs.Listings.{log_text, channels_text}
use Rattle.pj_machine.specs.Outcome.{Outcome, says, refuses, gives, enters, Unless}
use Rattle.pj_machine.specs.Replay.{IsReplay}
use Rattle.pj_machine.specs.State.{State, list_of}

-- ---- what is looked up first

-- what is said of the list of the channel of this name; `channel` where there is none
abbrev pub InChannel : State → ChannelName → (List Record → Outcome → Type 0) → Outcome → Type 0
InChannel s name rest outcome = MatchOption (list_of s name) (outcome ≡ refuses refusal.Channel) (λ list. rest list outcome)

-- what is said of the change of this name; `change` where the store has none
abbrev pub InStore : State → Name → (Record → Outcome → Type 0) → Outcome → Type 0
InStore s name rest outcome = MatchOption (record_of s.store name) (outcome ≡ refuses refusal.Change) (λ r. rest r outcome)

-- ---- what a write may run into last

-- the reply with the write; `full journal` where there are as many entries as there may be
abbrev pub Writes : Limits → ℕ → Reply → Write → Outcome → Type 0
Writes limits entries reply write = Unless (limits.entries ≤ entries) (No refusal.FullJournal) (λ outcome. outcome ≡ enters reply write)

-- ---- `put`

-- no change has this text
abbrev pub IsMalformed : List ℕ → Type 0
IsMalformed text = (change : Change) → text ≢ spelling change

-- the store has the text
pub record HasText (s : State) (text : List ℕ) : Type 0 where
  pub stored : Record
  pub member : Contains s.store stored
  pub same : stored.text ≡ text

-- the store has another text under the name of the change
pub record HasOtherText (s : State) (r : Record) : Type 0 where
  pub stored : Record
  pub member : Contains s.store stored
  pub named : stored.name ≡ r.name
  pub other : stored.text ≢ r.text

-- the bytes of all texts of the store
abbrev pub bytes_held : State → ℕ
bytes_held s = sum_by (λ r. length r.text) s.store

-- the store has as many changes as it may, or would have more bytes
abbrev pub IsStoreFull : Limits → State → List ℕ → Type 0
IsStoreFull limits s text = (limits.changes ≤ length s.store) ⊎ (limits.bytes < bytes_held s + length text)

-- a text that is this change's
abbrev pub PutsChange : Limits → State → ℕ → Record → Outcome → Type 0
PutsChange limits s entries r =
    Unless (HasText s r.text) (AlreadyNamed r.name)
    (Unless (HasOtherText s r) (No refusal.Clash)
    (Unless (IsStoreFull limits s r.text) (No refusal.FullStore)
    (Writes limits entries (Named r.name) (write.Put r))))

-- `put`: a text that no change has is malformed
abbrev pub Puts : Limits → State → ℕ → List ℕ → Outcome → Type 0
Puts limits s entries text outcome =
    (IsMalformed text × (outcome ≡ refuses refusal.Malformed)) ⊎ ((r : Record) × (r.text ≡ text) × PutsChange limits s entries r outcome)

-- ---- channels as a whole

-- a new channel, which the write makes
abbrev pub Makes : Limits → State → ℕ → ChannelName → Write → Outcome → Type 0
Makes limits s entries name write =
    Unless (IsSome (list_of s name)) (No refusal.Taken)
    (Unless (limits.channels ≤ length s.channels) (No refusal.FullChannels)
    (Writes limits entries Done write))

-- `fork`: a new channel with the list of another one
abbrev pub Forks : Limits → State → ℕ → ChannelName → ChannelName → Outcome → Type 0
Forks limits s entries from to = InChannel s from (λ list. Makes limits s entries to (write.Fork from to))

-- `drop`: the channel goes
abbrev pub Drops : Limits → State → ℕ → ChannelName → Outcome → Type 0
Drops limits s entries name = InChannel s name (λ list. Writes limits entries Done (write.Drop name))

-- `pull`: the channel takes in the changes of another one
abbrev pub Pulls : Limits → State → ℕ → ChannelName → ChannelName → Outcome → Type 0
Pulls limits s entries into from = InChannel s into (λ list. InChannel s from (λ other. Writes limits entries Done (write.Pull into from)))

-- ---- changes of a channel

-- the outcome of what the channel answers to an application
abbrev pub AsApplied : Limits → ℕ → Write → Result (Applied (List Record)) ApplyRefusal → Outcome → Type 0
AsApplied limits entries write (Ok applied.Already) outcome = outcome ≡ says Already
AsApplied limits entries write (Ok (applied.New after)) outcome = Writes limits entries Done write outcome
AsApplied limits entries write (Err (apply.Needs name)) outcome = outcome ≡ refuses (refusal.Needs name)
AsApplied limits entries write (Err (apply.Context k)) outcome = outcome ≡ refuses (refusal.Context k)
AsApplied limits entries write (Err apply.Memory) outcome = ⊥

-- `apply`: the change of the store comes into the channel
abbrev pub Applies : Limits → State → ℕ → ChannelName → Name → Outcome → Type 0
Applies limits s entries name change =
    InChannel s name (λ list. InStore s change (λ r outcome.
    (result : Result (Applied (List Record)) ApplyRefusal) × IsApplyAnswer list r result
    × AsApplied limits entries (write.Apply name change) result outcome))

-- the outcome of what the channel answers to an unrecord
abbrev pub AsUnrecorded : Limits → ℕ → Write → Result (List Record) UnrecordRefusal → Outcome → Type 0
AsUnrecorded limits entries write (Ok after) outcome = Writes limits entries Done write outcome
AsUnrecorded limits entries write (Err unrecord.Absent) outcome = outcome ≡ refuses refusal.Absent
AsUnrecorded limits entries write (Err (unrecord.Held name)) outcome = outcome ≡ refuses (refusal.Held name)
AsUnrecorded limits entries write (Err unrecord.Memory) outcome = ⊥

-- `unrecord`: the change leaves the channel
abbrev pub Unrecords : Limits → State → ℕ → ChannelName → Name → Outcome → Type 0
Unrecords limits s entries name change =
    InChannel s name (λ list. InStore s change (λ r outcome.
    (result : Result (List Record) UnrecordRefusal) × IsUnrecordAnswer list change result
    × AsUnrecorded limits entries (write.Unrecord name change) result outcome))

-- the outcome of what the channel answers to an uproot
abbrev pub AsUprooted : Limits → ℕ → Write → Result (List Record) UprootRefusal → Outcome → Type 0
AsUprooted limits entries write (Ok after) outcome = Writes limits entries Done write outcome
AsUprooted limits entries write (Err uproot.Absent) outcome = outcome ≡ refuses refusal.Absent
AsUprooted limits entries write (Err uproot.Memory) outcome = ⊥

-- `uproot`: the change leaves the channel, with all that need it
abbrev pub Uproots : Limits → State → ℕ → ChannelName → Name → Outcome → Type 0
Uproots limits s entries name change =
    InChannel s name (λ list. InStore s change (λ r outcome.
    (result : Result (List Record) UprootRefusal) × IsUprootAnswer list change result
    × AsUprooted limits entries (write.Uproot name change) result outcome))

-- ---- reads

-- `get`: the text of a change
abbrev pub Gets : State → Name → Outcome → Type 0
Gets s name = InStore s name (λ r outcome. outcome ≡ gives r.text)

-- the text of the inverse of a change; `inverse` with its first hunk that has none
abbrev pub InvertsChange : Record → Outcome → Type 0
InvertsChange r outcome =
    ((k : ℕ) × IsFirstWithoutInverse r k × (outcome ≡ refuses (refusal.Inverse k)))
    ⊎ (((k : ℕ) → IsFirstWithoutInverse r k → ⊥) × (change : Change) × IsInverse r change × (outcome ≡ gives (spelling change)))

-- `inverse`: the text of the inverse of a change of the store
abbrev pub Inverts : State → Name → Outcome → Type 0
Inverts s name = InStore s name InvertsChange

-- `graph`: the text of the graph of the channel
abbrev pub Graphs : State → ChannelName → Outcome → Type 0
Graphs s name = InChannel s name (λ list outcome. (g : Graph) × IsGraph list g × (outcome ≡ gives (graph_text g)))

-- the outcome of what the channel answers to a print
abbrev pub AsPrinted : Result (List ℕ) PrintRefusal → Outcome → Type 0
AsPrinted (Ok bytes) outcome = outcome ≡ gives bytes
AsPrinted (Err (print.Wide inode)) outcome = outcome ≡ refuses (refusal.Wide inode)
AsPrinted (Err print.Memory) outcome = ⊥

-- `print`: the print of the channel; `wide` with the first file that has too many live vertices
abbrev pub Prints : Limits → State → ChannelName → Outcome → Type 0
Prints limits s name =
    InChannel s name (λ list outcome. (result : Result (List ℕ) PrintRefusal) × IsPrintAnswer list limits.live result × AsPrinted result outcome)

-- `log`: the names of the changes of the channel, in their order
abbrev pub Logs : State → ChannelName → Outcome → Type 0
Logs s name = InChannel s name (λ list outcome. outcome ≡ gives (log_text (map (λ r. r.name) list)))

-- a channel of the state, with how many changes it has
abbrev pub IsCount : State → ChannelCount → Type 0
IsCount s c = MatchOption (list_of s c.name) ⊥ (λ list. c.changes ≡ length list)

-- each channel once, by the bytes of its name
abbrev pub AreCounts : State → List ChannelCount → Type 0
AreCounts s counts = Lists (on (λ c. c.name) channel_cmp) (IsCount s) counts

-- `channels`: each channel, with how many changes it has
abbrev pub ListsChannels : State → Outcome → Type 0
ListsChannels s outcome = (counts : List ChannelCount) × AreCounts s counts × (outcome ≡ gives (channels_text counts))

-- ---- the table

-- in state s, after the entries of the journal: the outcome of the command
abbrev pub AnswersIn : Limits → State → List Entry → Command → Outcome → Type 0
AnswersIn limits s journal (command.Put text) = Puts limits s (length journal) text
AnswersIn limits s journal (command.Get name) = Gets s name
AnswersIn limits s journal (command.Inverse name) = Inverts s name
AnswersIn limits s journal (command.New name) = Makes limits s (length journal) name (write.New name)
AnswersIn limits s journal (command.Fork from to) = Forks limits s (length journal) from to
AnswersIn limits s journal (command.Drop name) = Drops limits s (length journal) name
AnswersIn limits s journal (command.Apply name change) = Applies limits s (length journal) name change
AnswersIn limits s journal (command.Unrecord name change) = Unrecords limits s (length journal) name change
AnswersIn limits s journal (command.Uproot name change) = Uproots limits s (length journal) name change
AnswersIn limits s journal (command.Pull into from) = Pulls limits s (length journal) into from
AnswersIn limits s journal (command.Graph name) = Graphs s name
AnswersIn limits s journal (command.Print name) = Prints limits s name
AnswersIn limits s journal (command.Log name) = Logs s name
AnswersIn limits s journal command.Channels = ListsChannels s
AnswersIn limits s journal command.Journal = λ outcome. outcome ≡ gives (journal_text journal)
-- it ends the session, and is no call
AnswersIn limits s journal command.Quit = λ outcome. ⊥

-- at the end of the journal: the reply to the command, and what is entered, if anything is
pub record IsAnswer (limits : Limits) (journal : List Entry) (command : Command) (reply : Reply) (entered : Option Write) : Type 0 where
  pub state : State
  pub replayed : IsReplay journal state
  pub answers : AnswersIn limits state journal command (record { reply = reply; entered = entered })
