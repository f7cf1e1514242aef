-- Lists of strings that are requests, accepted one after the other.
use Rattle.std.specs.Prelude.{◌≡◌, ℕ, ◌+◌, List, [], ◌∷◌, ◌++◌, length, map, Some}
use Rattle.pj_machine.specs.declared.command.Command.{Command}
use Rattle.pj_machine.specs.declared.command.Write.{Write}
use Rattle.pj_machine.specs.declared.journal.Entry.{Entry}
use Rattle.pj_machine.specs.declared.limits.Limits.{Limits}
use Rattle.pj_machine.specs.declared.reply.Reply.{Reply}
use Rattle.pj_machine.specs.Answer.{IsAnswer}
use Rattle.pj_machine.specs.Call.{entry}
use Rattle.pj_machine.specs.Entries.{commands}
use Rattle.pj_wire.specs.Requests.{spelling, IsCall}

-- the requests of entries, as they are stored
abbrev pub requests_of : List Entry → List (List ℕ)
requests_of journal = map spelling (commands journal)

-- after these entries the string is one request, which is accepted and enters this write
pub record IsAccepted (limits : Limits) (before : List Entry) (string : List ℕ) (w : Write) : Type 0 where
  pub command : Command
  pub call : IsCall command
  pub spelled : string ≡ spelling command
  pub reply : Reply
  pub answer : IsAnswer limits before command reply (Some w)

-- the strings are accepted one after the other, each by the next call of this pass, and lead from
-- the entries of before to those of after
abbrev pub Restores : Limits → ℕ → List Entry → List (List ℕ) → List Entry → Type 0
Restores limits pass before [] after = after ≡ before
Restores limits pass before (string ∷ strings) after =
    (w : Write) × IsAccepted limits before string w
    × Restores limits pass (before ++ entry pass (length before + 1) w ∷ []) strings after

-- the strings can be restored where nothing was entered
abbrev pub IsRestorable : Limits → List (List ℕ) → Type 0
IsRestorable limits strings = (journal : List Entry) × Restores limits 1 [] strings journal
