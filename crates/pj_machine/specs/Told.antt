-- Which replies tell of an entry.
use Rattle.std.specs.Prelude.{◌≡◌, ℕ, Bool, true, false, List, None}
use Rattle.pj_machine.specs.declared.command.Command.{Command}
use Rattle.pj_machine.specs.declared.journal.Entry.{Entry}
use Rattle.pj_machine.specs.declared.limits.Limits.{Limits}
use Rattle.pj_machine.specs.declared.reply.Numbered.{Numbered}
use Rattle.pj_machine.specs.declared.reply.Numbered.TheVariants.{At, NoMemory}
use Rattle.pj_machine.specs.declared.reply.Reply.{Reply}
use Rattle.pj_machine.specs.declared.reply.Reply.TheVariants.{Done, Named}
use Rattle.pj_machine.specs.Answer.{IsAnswer}

-- it is the reply to a write that was entered
abbrev pub is_entered : Numbered → Bool
is_entered (At place Done) = true
is_entered (At place (Named name)) = true
is_entered (At place reply) = false
is_entered NoMemory = false

-- a command that enters nothing is not replied as one that was entered
abbrev pub NoneIsTold : Type 0
NoneIsTold =
    (limits : Limits) (journal : List Entry) (command : Command) (place : ℕ) (reply : Reply) →
    IsAnswer limits journal command reply None → is_entered (At place reply) ≡ false
