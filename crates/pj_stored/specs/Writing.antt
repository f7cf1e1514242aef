-- The commands that enter writes.
use Rattle.std.specs.Prelude.{Bool, true, false}
use Rattle.pj_machine.specs.declared.command.Command.{Command}
use Rattle.pj_machine.specs.declared.command.Command.TheVariants as command

-- whether the command enters a write where it is accepted
abbrev pub may_enter : Command → Bool
may_enter (command.Put text) = true
may_enter (command.New name) = true
may_enter (command.Fork from to) = true
may_enter (command.Drop name) = true
may_enter (command.Apply name change) = true
may_enter (command.Unrecord name change) = true
may_enter (command.Uproot name change) = true
may_enter (command.Pull into from) = true
may_enter x = false
