-- The laws of the machine. Each is the contract of a function in the module `laws`.
use Rattle.std.specs.Prelude.{◌≡◌, List, Option, Some, None}
use Rattle.pj_machine.specs.declared.command.Command.{Command}
use Rattle.pj_machine.specs.declared.command.Write.{Write}
use Rattle.pj_machine.specs.declared.command.Write.TheVariants as write
use Rattle.pj_machine.specs.declared.journal.Entry.{Entry}
use Rattle.pj_machine.specs.declared.limits.Limits.{Limits}
use Rattle.pj_machine.specs.declared.reply.Reply.{Reply}
use Rattle.pj_machine.specs.declared.reply.Reply.TheVariants.{Done, Named, No}
use Rattle.pj_machine.specs.declared.reply.Refusal.{Refusal}
use Rattle.pj_machine.specs.Answer.{IsAnswer}
use Rattle.pj_machine.specs.Legal.{IsLegal, command_of}
use Rattle.pj_machine.specs.Replay.{IsReplay}
use Rattle.pj_machine.specs.Sound.{IsSound}
use Rattle.pj_machine.specs.State.{State}

-- a journal leads to at most one state
abbrev pub AtMostOneReplay : Type 0
AtMostOneReplay = (journal : List Entry) (s t : State) → IsReplay journal s → IsReplay journal t → s ≡ t

-- a legal journal leads to a state
abbrev pub LegalIsReplayed : Type 0
LegalIsReplayed = (limits : Limits) (journal : List Entry) → IsLegal limits journal → (s : State) × IsReplay journal s

-- which is sound
abbrev pub LegalIsSound : Type 0
LegalIsSound = (limits : Limits) (journal : List Entry) (s : State) → IsLegal limits journal → IsReplay journal s → IsSound s

-- after a journal a command has at most one answer
abbrev pub AtMostOneAnswer : Type 0
AtMostOneAnswer =
    (limits : Limits) (journal : List Entry) (command : Command) (reply other : Reply) (entered also : Option Write) →
    IsAnswer limits journal command reply entered → IsAnswer limits journal command other also → (reply ≡ other) × (entered ≡ also)

-- what is refused is not entered
abbrev pub RefusedIsNotEntered : Type 0
RefusedIsNotEntered =
    (limits : Limits) (journal : List Entry) (command : Command) (refusal : Refusal) (entered : Option Write) →
    IsAnswer limits journal command (No refusal) entered → entered ≡ None

-- the reply to a write that is entered
abbrev pub reply_of : Write → Reply
reply_of (write.Put r) = Named r.name
reply_of w = Done

-- what is entered is what was asked for, and what the reply says
abbrev pub EnteredIsReplied : Type 0
EnteredIsReplied =
    (limits : Limits) (journal : List Entry) (command : Command) (reply : Reply) (w : Write) →
    IsAnswer limits journal command reply (Some w) → (command_of w ≡ command) × (reply ≡ reply_of w)
