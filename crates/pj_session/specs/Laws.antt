-- Laws of sessions.
use Rattle.std.specs.Prelude.{◌≡◌, ℕ, Bool, false, List}
use mathlib.Core.List.{IsPrefix}
use Rattle.pj_machine.specs.declared.command.Command.{Command}
use Rattle.pj_machine.specs.declared.journal.Entry.{Entry}
use Rattle.pj_machine.specs.declared.limits.Limits.{Limits}
use Rattle.pj_machine.specs.declared.reply.Numbered.{Numbered}
use Rattle.pj_machine.specs.Call.{entries_of}
use Rattle.pj_wire.specs.Requests.{Begins, HasRequests}
use Rattle.pj_session.specs.Spoke.{Spoke}

-- what was spoken in a journal was spoken in each longer one, where the pass has no more entries there
abbrev pub StaysSpoken : Type 0
StaysSpoken =
    (limits : Limits) (journal longer : List Entry) (pass : ℕ) (xs : List Command) (rs : List Numbered) →
    IsPrefix journal longer → entries_of pass longer ≡ entries_of pass journal →
    Spoke limits journal pass xs rs → Spoke limits longer pass xs rs

-- requests with which bytes begin are the first ones of the requests of the bytes
abbrev pub AreFirst : Type 0
AreFirst =
    (bytes rest left : List ℕ) (xs ys : List Command) (quit : Bool) →
    Begins bytes xs false rest → HasRequests bytes ys quit left → IsPrefix xs ys
