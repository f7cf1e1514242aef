-- Laws of large runs.
use Rattle.std.specs.Prelude.{◌≡◌, List, Some, All}
use Rattle.pj_change.specs.declared.change.Record.{Record}
use Rattle.pj_machine.specs.declared.channel_name.ChannelName.{ChannelName}
use Rattle.pj_machine.specs.declared.journal.Entry.{Entry}
use Rattle.pj_machine.specs.Replay.{Leads}
use Rattle.pj_machine.specs.State.{State, list_of}
use Rattle.pj_machine.specs.Entries.{commands}
use Rattle.pj_load.specs.Stands.{IsPlain, HasList}

-- after plain commands a channel has just the changes that stand
abbrev pub HasWhatStands : Type 0
HasWhatStands =
    (s t : State) (entries : List Entry) (channel : ChannelName) (list : List Record) → All IsPlain (commands entries) → Leads s entries t → list_of s channel ≡ Some list
    → HasList t channel list (commands entries)
