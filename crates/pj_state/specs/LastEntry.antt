-- The number of the last entry of a channel.
use Rattle.std.specs.Prelude.{ℕ, ◌+◌, Bool, false, List, [], ◌∷◌, if◌then◌else◌}
use Rattle.std.specs.Str.{bytes_eq}
use Rattle.pj_machine.specs.declared.channel_name.ChannelName.{ChannelName}
use Rattle.pj_machine.specs.declared.command.Write.{Write}
use Rattle.pj_machine.specs.declared.command.Write.TheVariants as write
use Rattle.pj_machine.specs.declared.journal.Entry.{Entry}

-- the write makes, changes or takes away the channel of this name
abbrev pub changes : ChannelName → Write → Bool
changes name (write.Put r) = false
changes name (write.New other) = bytes_eq other name
changes name (write.Fork from to) = bytes_eq to name
changes name (write.Drop other) = bytes_eq other name
changes name (write.Apply other change) = bytes_eq other name
changes name (write.Unrecord other change) = bytes_eq other name
changes name (write.Uproot other change) = bytes_eq other name
changes name (write.Pull into from) = bytes_eq into name

-- of entries of which the first has the number `next`, the number of the last that changes the channel, or `last`
abbrev pub last_from : ChannelName → ℕ → ℕ → List Entry → ℕ
last_from name next last [] = last
last_from name next last (e ∷ entries) = last_from name (next + 1) (if changes name e.write then next else last) entries

-- the number of the last entry that changes the channel, or 0 where none does
abbrev pub last_of : ChannelName → List Entry → ℕ
last_of name journal = last_from name 1 0 journal
