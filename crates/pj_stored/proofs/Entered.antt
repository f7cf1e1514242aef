-- What was entered was asked for by a command that may enter.
use Rattle.std.proofs.Common.{◌≡◌, ℕ, true, List, refl, sym, ◌∙◌, ap, inl, inr}
use Rattle.pj_machine.specs.declared.command.Command.{Command}
use Rattle.pj_machine.specs.declared.command.Write.{Write}
use Rattle.pj_machine.specs.declared.command.Write.TheVariants as write
use Rattle.pj_machine.specs.declared.journal.Entry.{Entry}
use Rattle.pj_machine.specs.declared.limits.Limits.{Limits}
use Rattle.pj_machine.specs.declared.reply.Numbered.{Numbered}
use Rattle.pj_machine.specs.declared.reply.Numbered.TheVariants.{At, NoMemory}
use Rattle.pj_machine.specs.Call.{IsResult}
use Rattle.pj_machine.specs.Legal.{command_of}
use Rattle.pj_machine.specs.Told.{is_entered}
use Rattle.pj_machine.proofs.Entered.{entered}
use Rattle.pj_machine.proofs.NoneTold.{none_told}
use Rattle.pj_stored.specs.Writing.{may_enter}

-- a write is asked for by a command that may enter
write_may : (w : Write) → may_enter (command_of w) ≡ true
write_may (write.Put r) = refl
write_may (write.New name) = refl
write_may (write.Fork from to) = refl
write_may (write.Drop name) = refl
write_may (write.Apply name change) = refl
write_may (write.Unrecord name change) = refl
write_may (write.Uproot name change) = refl
write_may (write.Pull into from) = refl

-- so is what was replied as entered
pub entered_may : (limits : Limits) (journal : List Entry) (pass call : ℕ) (x : Command) (r : Numbered) →
    IsResult limits journal pass call x r → is_entered r ≡ true → may_enter x ≡ true
entered_may limits journal pass call x (At place reply) (inl w) told =
    sym (ap may_enter (entered limits w.before x reply w.write w.answer).0) ∙ write_may w.write
entered_may limits journal pass call x (At place reply) (inr s) told = absurd (cc (told, none_told limits s.before x place reply s.answer))
entered_may limits journal pass call x NoMemory is told = absurd (cc told)
