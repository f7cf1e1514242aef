-- The commands that look up a channel and then a change.
use Rattle.std.specs.Prelude.{◌≡◌, ◌⊎◌}
use Rattle.pj_name.specs.declared.name.Name.{Name}
use Rattle.pj_machine.specs.declared.channel_name.ChannelName.{ChannelName}
use Rattle.pj_machine.specs.declared.command.Command.{Command}
use Rattle.pj_machine.specs.declared.command.Command.TheVariants as command

-- the command applies or unrecords this change on this channel
abbrev pub ChangesBy : ChannelName → Name → Command → Type 0
ChangesBy name change x = (x ≡ command.Apply name change) ⊎ (x ≡ command.Unrecord name change)
