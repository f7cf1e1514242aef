-- What a write does to a state.
use Rattle.std.specs.Prelude.{◌≡◌, List, [], ◌∷◌, ◌++◌, Some}
use Rattle.pj_change.specs.declared.change.Record.{Record}
use Rattle.pj_change.specs.Lawful.{record_of}
use Rattle.pj_change.specs.Union.{union}
use Rattle.pj_change.specs.Uproot.{IsUprooted}
use Rattle.pj_change.specs.Unrecord.{without}
use Rattle.pj_machine.specs.declared.channel_name.ChannelName.{ChannelName}
use Rattle.pj_machine.specs.declared.command.Write.{Write}
use Rattle.pj_machine.specs.declared.command.Write.TheVariants as write
use Rattle.pj_machine.specs.State.{State, list_of, with_channel, without_channel, with_list}

-- the channel of this name has this list
abbrev pub IsListOf : State → ChannelName → List Record → Type 0
IsListOf s name list = list_of s name ≡ Some list

-- from state s the write leads to state t
abbrev pub Steps : State → Write → State → Type 0
-- the change is stored
Steps s (write.Put r) t = t ≡ record { store = s.store ++ r ∷ []; channels = s.channels }
-- a channel without changes
Steps s (write.New name) t = t ≡ with_channel s name []
-- a second channel with the list of the first
Steps s (write.Fork from to) t = (list : List Record) × IsListOf s from list × (t ≡ with_channel s to list)
-- the channel is gone
Steps s (write.Drop name) t = t ≡ without_channel s name
-- the change of the store stands at the end of the list
Steps s (write.Apply name change) t =
    (list : List Record) × (r : Record) × IsListOf s name list × (record_of s.store change ≡ Some r) × (t ≡ with_list s name (list ++ r ∷ []))
-- the list without the change
Steps s (write.Unrecord name change) t = (list : List Record) × IsListOf s name list × (t ≡ with_list s name (without list change))
-- the list without the change and all that reach it by needs
Steps s (write.Uproot name change) t =
    (list : List Record) × (rest : List Record) × IsListOf s name list × IsUprooted list change rest × (t ≡ with_list s name rest)
-- what the second channel has and the first lacks stands at the end of the first list, in the order of the second
Steps s (write.Pull into from) t =
    (list : List Record) × (other : List Record) × IsListOf s into list × IsListOf s from other × (t ≡ with_list s into (union list other))
