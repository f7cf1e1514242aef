-- The state of a repository: its store of changes, and its channels.
use Rattle.std.specs.Prelude.{Bool, not, List, [], ◌∷◌, ◌++◌, map, filter, find, codes, Option, if◌then◌else◌}
use Rattle.std.specs.Option.{option_map}
use Rattle.std.specs.Str.{bytes_eq}
use Rattle.pj_change.specs.declared.change.Record.{Record}
use Rattle.pj_machine.specs.declared.channel_name.ChannelName.{ChannelName}

-- a channel: its name, and the list of its changes
pub record Channel : Type 0 where
  pub name : ChannelName
  pub list : List Record

-- the changes in the order in which they were stored, and the channels in the order in which they were made
pub record State : Type 0 where
  pub store : List Record
  pub channels : List Channel

-- a channel from its fields
abbrev pub channel : ChannelName → List Record → Channel
channel name list = record { name = name; list = list }

-- nothing is stored, and the channel `main` has no change
abbrev pub opening : State
opening = record { store = []; channels = channel (codes "main") [] ∷ [] }

-- ---- channels by their names

-- the channel has this name
abbrev pub is_named : ChannelName → Channel → Bool
is_named name c = bytes_eq c.name name

-- the list of the channel of this name, where there is one
abbrev pub list_of : State → ChannelName → Option (List Record)
list_of s name = option_map (λ c. c.list) (find (is_named name) s.channels)

-- the state with one more channel
abbrev pub with_channel : State → ChannelName → List Record → State
with_channel s name list = record { store = s.store; channels = s.channels ++ channel name list ∷ [] }

-- the state without the channel of this name
abbrev pub without_channel : State → ChannelName → State
without_channel s name = record { store = s.store; channels = filter (λ c. not (is_named name c)) s.channels }

-- the state in which the channel of this name has this list
abbrev pub with_list : State → ChannelName → List Record → State
with_list s name list = record { store = s.store; channels = map (λ c. if is_named name c then channel name list else c) s.channels }
