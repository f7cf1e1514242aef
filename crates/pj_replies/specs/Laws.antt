-- Laws of replies to commands.
use Rattle.std.specs.Prelude.{◌≡◌, ℕ, List, ◌++◌, Option}
use Rattle.pj_machine.specs.declared.command.Command.{Command}
use Rattle.pj_machine.specs.declared.command.Write.{Write}
use Rattle.pj_machine.specs.declared.journal.Entry.{Entry}
use Rattle.pj_machine.specs.declared.limits.Limits.{Limits}
use Rattle.pj_machine.specs.declared.reply.Numbered.{Numbered}
use Rattle.pj_machine.specs.declared.reply.Reply.{Reply}
use Rattle.pj_machine.specs.Answer.{IsAnswer}
use Rattle.pj_wire.specs.Replies.{reply_bytes}
use Rattle.pj_replies.specs.MayCome.{MayCome, IsReplyTo}
use Rattle.pj_replies.specs.Reads.{IsPartOf, IsStrangeTo}

-- what one thread replies may come
abbrev pub AnswersMayCome : Type 0
AnswersMayCome =
    (limits : Limits) (journal : List Entry) (x : Command) (reply : Reply) (entered : Option Write) → IsAnswer limits journal x reply entered → MayCome x reply

-- bytes begin with at most one reply to a command
abbrev pub AtMostOneReply : Type 0
AtMostOneReply = (x : Command) (r q : Numbered) (a b : List ℕ) → IsReplyTo x r → IsReplyTo x q → reply_bytes r ++ a ≡ reply_bytes q ++ b → (r ≡ q) × (a ≡ b)

-- what begins no reply stays so as it goes on
abbrev pub StrangeStays : Type 0
StrangeStays = (x : Command) (bytes more : List ℕ) → IsStrangeTo x bytes → IsStrangeTo x (bytes ++ more)

-- less than a reply begins with none
abbrev pub PartHasNone : Type 0
PartHasNone = (x : Command) (bytes : List ℕ) (r : Numbered) (rest : List ℕ) → IsPartOf x bytes → IsReplyTo x r → bytes ≡ reply_bytes r ++ rest → ⊥
