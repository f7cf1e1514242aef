-- What was shared out of a repository at a place of its journal, and what may be said of it there.
use Rattle.std.specs.Prelude.{◌≡◌, ℕ, List, length, Option, Some, None}
use Rattle.pj_name.specs.declared.name.Name.{Name}
use Rattle.pj_change.specs.declared.change.Record.{Record}
use Rattle.pj_change.specs.Lawful.{record_of}
use Rattle.pj_machine.specs.declared.channel_name.ChannelName.{ChannelName}
use Rattle.pj_machine.specs.declared.command.Command.{Command}
use Rattle.pj_machine.specs.declared.command.Command.TheVariants as command
use Rattle.pj_machine.specs.declared.command.Write.{Write}
use Rattle.pj_machine.specs.declared.reply.Numbered.{Numbered}
use Rattle.pj_machine.specs.Legal.{IsLegal}
use Rattle.pj_machine.specs.State.{State}
use Rattle.pj_machine.specs.Step.{IsListOf}
use Rattle.pj_state.specs.Installs.{Installs}
use Rattle.pj_state.specs.Kept.{Kept, After}
use Rattle.pj_state.specs.Replies.{Reads}

-- a repository with so many entries, whose state is as P says
pub record IsAt (k : Kept) (place : ℕ) (P : State → Type 0) : Type 0 where
  pub at : place ≡ length k.journal
  pub legal : IsLegal k.limits k.journal
  pub state : After k.journal P

-- the store has this change under this name
abbrev pub Stores : Name → Record → State → Type 0
Stores name r s = record_of s.store name ≡ Some r

-- the channel of this name has this list
abbrev pub HasChannel : ChannelName → List Record → State → Type 0
HasChannel name list s = IsListOf s name list

-- it is the reply at this place to the command on a change, whatever repository has the change there, under whatever name
abbrev pub ReadsStored : ℕ → Record → (Name → Command) → Numbered → Type 0
ReadsStored place r asks result = (k : Kept) (name : Name) → IsAt k place (Stores name r) → Reads k (asks name) result

-- it is the reply at this place to the command on a channel, whatever repository has the list there, under whatever name
abbrev pub ReadsListed : ℕ → List Record → (ChannelName → Command) → Numbered → Type 0
ReadsListed place list asks result = (k : Kept) (name : ChannelName) → IsAt k place (HasChannel name list) → Reads k (asks name) result

-- it is the reply at this place to the command on a channel and this change, whatever repository has both there
abbrev pub ReadsBoth : ℕ → List Record → Name → Record → (ChannelName → Command) → Numbered → Type 0
ReadsBoth place list change r asks result =
    (k : Kept) (name : ChannelName) → IsAt k place (HasChannel name list) → IsAt k place (Stores change r) → Reads k (asks name) result

-- wherever a channel has the list and the store the change, the write may be entered, and the channel has the list `after` then
abbrev pub InstallsBoth : List Record → Name → Record → (ChannelName → Write) → List Record → Type 0
InstallsBoth list change r writes after =
    (k : Kept) (s : State) (name : ChannelName) → HasChannel name list s → Stores change r s → Installs k s (writes name) name after

-- ---- what a command looks up

-- the channel that it looks up first
abbrev pub first_channel : Command → Option ChannelName
first_channel (command.Fork from to) = Some from
first_channel (command.Drop name) = Some name
first_channel (command.Apply name change) = Some name
first_channel (command.Unrecord name change) = Some name
first_channel (command.Uproot name change) = Some name
first_channel (command.Pull into from) = Some into
first_channel (command.Graph name) = Some name
first_channel (command.Print name) = Some name
first_channel (command.Log name) = Some name
first_channel x = None

-- the change that it looks up first, and no channel before
abbrev pub first_change : Command → Option Name
first_change (command.Get name) = Some name
first_change (command.Inverse name) = Some name
first_change x = None
