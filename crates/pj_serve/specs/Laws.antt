-- Laws of a session that has its repository to itself.
use Rattle.std.specs.Prelude.{◌≡◌, ℕ, ◌+◌, List, [], ◌∷◌, ◌++◌, length, All, Option, Some, None}
use Rattle.pj_machine.specs.declared.command.Command.{Command}
use Rattle.pj_machine.specs.declared.command.Write.{Write}
use Rattle.pj_machine.specs.declared.journal.Entry.{Entry}
use Rattle.pj_machine.specs.declared.limits.Limits.{Limits}
use Rattle.pj_machine.specs.declared.reply.Numbered.{Numbered}
use Rattle.pj_machine.specs.declared.reply.Numbered.TheVariants.{At, NoMemory}
use Rattle.pj_machine.specs.Answer.{IsAnswer}
use Rattle.pj_machine.specs.Call.{entry}
use Rattle.pj_session.specs.declared.end.End.TheVariants.{Done}
use Rattle.pj_session.specs.Session.{IsSession}
use Rattle.pj_session.specs.Spoke.{Spoke}
use Rattle.pj_wire.specs.Replies.{written}

-- the entries, and one more of pass 1 where a write was accepted
abbrev pub with_entry : List Entry → ℕ → Option Write → List Entry
with_entry before call None = before
with_entry before call (Some write) = before ++ entry 1 call write ∷ []

-- One thread replies so to the commands, one after the other, from these entries and this call on. No reply is want of memory,
-- and each place is the number of the writes that were accepted so far.
abbrev pub RepliesInTurn : Limits → List Entry → ℕ → List Command → List Numbered → Type 0
RepliesInTurn limits before call [] [] = Unit {0}
RepliesInTurn limits before call (x ∷ xs) (At place reply ∷ rs) =
    (entered : Option Write) × IsAnswer limits before x reply entered × (place ≡ length (with_entry before call entered))
    × RepliesInTurn limits (with_entry before call entered) (call + 1) xs rs
RepliesInTurn limits before call (x ∷ xs) (NoMemory ∷ rs) = ⊥
RepliesInTurn limits before call [] (r ∷ rs) = ⊥
RepliesInTurn limits before call (x ∷ xs) [] = ⊥

-- the reply has a place
abbrev pub HasPlace : Numbered → Type 0
HasPlace (At place reply) = Unit {0}
HasPlace NoMemory = ⊥

-- A session of pass 1 had the repository to itself, ended `Done`, and wanted memory for no reply. Its source had these bytes,
-- and it wrote these.
pub record IsAlone (limits : Limits) (bytes out : List ℕ) : Type 0 where
  pub journal : List Entry
  pub of_one : All (λ e. e.pass ≡ 1) journal
  pub later : List ℕ
  pub session : IsSession limits.session (λ taken. bytes ≡ taken ++ later) (later ≡ [])
      (λ xs rs. Spoke limits journal 1 xs rs × All HasPlace rs × (out ≡ written rs)) Done

-- a pass that has the journal to itself is replied what one thread replies
abbrev pub AloneAsOneThread : Type 0
AloneAsOneThread =
    (limits : Limits) (journal : List Entry) (xs : List Command) (rs : List Numbered) →
    All (λ e. e.pass ≡ 1) journal → Spoke limits journal 1 xs rs → All HasPlace rs → RepliesInTurn limits [] 1 xs rs

-- the bytes written are a function of the bytes read
abbrev pub WritesByReading : Type 0
WritesByReading = (limits : Limits) (bytes out other : List ℕ) → IsAlone limits bytes out → IsAlone limits bytes other → out ≡ other
