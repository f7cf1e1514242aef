-- Legal journals: one thread would enter each entry after those before it.
use Rattle.std.specs.Prelude.{◌≡◌, ◌≤◌, List, ◌∷◌, ◌++◌, length, Some}
use Rattle.pj_machine.specs.declared.command.Command.{Command}
use Rattle.pj_machine.specs.declared.command.Command.TheVariants as command
use Rattle.pj_machine.specs.declared.command.Write.{Write}
use Rattle.pj_machine.specs.declared.command.Write.TheVariants as write
use Rattle.pj_machine.specs.declared.journal.Entry.{Entry}
use Rattle.pj_machine.specs.declared.limits.Limits.{Limits}
use Rattle.pj_machine.specs.declared.reply.Reply.{Reply}
use Rattle.pj_machine.specs.Answer.{IsAnswer}

-- the command of a write
abbrev pub command_of : Write → Command
command_of (write.Put r) = command.Put r.text
command_of (write.New name) = command.New name
command_of (write.Fork from to) = command.Fork from to
command_of (write.Drop name) = command.Drop name
command_of (write.Apply name change) = command.Apply name change
command_of (write.Unrecord name change) = command.Unrecord name change
command_of (write.Uproot name change) = command.Uproot name change
command_of (write.Pull into from) = command.Pull into from

-- after these entries the command of the entry's write enters just that write
pub record Enters (limits : Limits) (before : List Entry) (e : Entry) : Type 0 where
  pub reply : Reply
  pub answer : IsAnswer limits before (command_of e.write) reply (Some e.write)

-- there are not too many entries, and each is entered after those before it
pub record IsLegal (limits : Limits) (journal : List Entry) : Type 0 where
  pub few : length journal ≤ limits.entries
  pub each : (before : List Entry) (e : Entry) (after : List Entry) → journal ≡ before ++ e ∷ after → Enters limits before e
