-- What a call does with the journal, and what it replies.
use Rattle.std.specs.Prelude.{◌≡◌, ◌≢◌, ℕ, length, Some, None, ◌⊎◌}
use Rattle.pj_change.specs.declared.change.Record.{Record}
use Rattle.pj_machine.specs.declared.command.Command.{Command}
use Rattle.pj_machine.specs.declared.command.Write.{Write}
use Rattle.pj_machine.specs.declared.reply.Numbered.{Numbered}
use Rattle.pj_machine.specs.declared.reply.Numbered.TheVariants.{At, NoMemory}
use Rattle.pj_machine.specs.declared.reply.Reply.{Reply}
use Rattle.pj_machine.specs.declared.reply.Reply.TheVariants.{AlreadyNamed, No}
use Rattle.pj_machine.specs.declared.reply.Refusal.TheVariants as refusal
use Rattle.pj_machine.specs.Answer.{IsAnswer}
use Rattle.pj_state.specs.Kept.{Kept, pushed}

-- one entry more, of this call, and the reply and the write are the answer before it
pub record Enters (before : Kept) (pass call : ℕ) (command : Command) (after : Kept) (reply : Reply) : Type 0 where
  pub write : Write
  pub entered : after ≡ pushed before pass call write
  pub answer : IsAnswer before.limits before.journal command reply (Some write)

-- nothing is entered, and so says the answer at the end of the journal
pub record Looks (before : Kept) (command : Command) (after : Kept) (reply : Reply) : Type 0 where
  pub same : after ≡ before
  pub answer : IsAnswer before.limits before.journal command reply None

-- the reply of one thread, at the number of its entry, or else at the number of entries; without memory nothing is entered
abbrev pub Replies : Kept → ℕ → ℕ → Command → Kept → Numbered → Type 0
Replies before pass call command after (At place reply) =
    (place ≡ length after.journal) × (Enters before pass call command after reply ⊎ Looks before command after reply)
Replies before pass call command after NoMemory = after ≡ before

-- the reply to a command that enters nothing
abbrev pub Reads : Kept → Command → Numbered → Type 0
Reads now command (At place reply) = (place ≡ length now.journal) × IsAnswer now.limits now.journal command reply None
Reads now command NoMemory = Unit {0}

-- the reply to a text under whose name the store has a change: the text is that of the change, or another
abbrev pub IsReplyToStored : Record → Record → Reply → Type 0
IsReplyToStored stored r reply =
    ((stored.text ≡ r.text) × (reply ≡ AlreadyNamed r.name)) ⊎ ((stored.text ≢ r.text) × (reply ≡ No refusal.Clash))
