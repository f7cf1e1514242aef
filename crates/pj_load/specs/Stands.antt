-- Whether commands leave a change in a channel.
use Rattle.std.specs.Prelude.{◌≡◌, Bool, not, ◌&&◌, ◌||◌, List, [], ◌∷◌, Some, if◌then◌else◌}
use Rattle.std.specs.Str.{bytes_eq}
use Rattle.pj_name.specs.declared.name.Name.{Name}
use Rattle.pj_name.specs.Name.{same_name}
use Rattle.pj_change.specs.declared.change.Record.{Record}
use Rattle.pj_change.specs.Lawful.{is_held}
use Rattle.pj_machine.specs.declared.channel_name.ChannelName.{ChannelName}
use Rattle.pj_machine.specs.declared.command.Command.{Command}
use Rattle.pj_machine.specs.declared.command.Command.TheVariants as command
use Rattle.pj_machine.specs.State.{State, list_of}

-- the commands that neither make nor take away a channel, nor copy one
abbrev pub IsPlain : Command → Type 0
IsPlain (command.Put text) = Unit {0}
IsPlain (command.Apply name change) = Unit {0}
IsPlain (command.Unrecord name change) = Unit {0}
IsPlain x = ⊥

-- whether the change is in the channel after the command, by whether it was before
abbrev pub stands_after : ChannelName → Name → Command → Bool → Bool
stands_after channel name (command.Apply other change) before = if bytes_eq other channel then before || same_name change name else before
stands_after channel name (command.Unrecord other change) before = if bytes_eq other channel then before && not (same_name change name) else before
stands_after channel name x before = before

-- whether the change is in the channel after the commands, by whether it was before
abbrev pub stands : ChannelName → Name → List Command → Bool → Bool
stands channel name [] before = before
stands channel name (x ∷ xs) before = stands channel name xs (stands_after channel name x before)

-- the channel has the changes of the first list before the commands and those that stand after them
pub record HasList (t : State) (channel : ChannelName) (before : List Record) (xs : List Command) : Type 0 where
  pub list : List Record
  pub is : list_of t channel ≡ Some list
  pub members : (name : Name) → is_held list name ≡ stands channel name xs (is_held before name)
