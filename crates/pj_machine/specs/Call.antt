-- One call of a pass: what it has to do with the journal.
use Rattle.std.specs.Prelude.{◌≡◌, ◌==◌, ℕ, ◌+◌, List, [], ◌∷◌, ◌++◌, length, filter, Some, None, ◌⊎◌}
use Rattle.pj_machine.specs.declared.command.Command.{Command}
use Rattle.pj_machine.specs.declared.command.Write.{Write}
use Rattle.pj_machine.specs.declared.journal.Entry.{Entry}
use Rattle.pj_machine.specs.declared.limits.Limits.{Limits}
use Rattle.pj_machine.specs.declared.reply.Numbered.{Numbered}
use Rattle.pj_machine.specs.declared.reply.Numbered.TheVariants.{At, NoMemory}
use Rattle.pj_machine.specs.declared.reply.Reply.{Reply}
use Rattle.pj_machine.specs.Answer.{IsAnswer}

-- ---- entries of a pass

-- an entry from its fields
abbrev pub entry : ℕ → ℕ → Write → Entry
entry pass call write = record { pass = pass; call = call; write = write }

-- the entries of a pass
abbrev pub entries_of : ℕ → List Entry → List Entry
entries_of pass journal = filter (λ e. e.pass == pass) journal

-- the entries of one call of a pass
abbrev pub entries_at : ℕ → ℕ → List Entry → List Entry
entries_at pass call journal = filter (λ e. e.call == call) (entries_of pass journal)

-- ---- the result of a call

-- The journal has just one entry of the call. It is the one at the place, and the reply is that before it.
pub record WasEntered (limits : Limits) (journal : List Entry) (pass call place : ℕ) (command : Command) (reply : Reply) : Type 0 where
  pub write : Write
  pub before : List Entry
  pub after : List Entry
  pub stands : journal ≡ before ++ entry pass call write ∷ after
  pub at : place ≡ length before + 1
  pub once : entries_at pass call journal ≡ entry pass call write ∷ []
  pub answer : IsAnswer limits before command reply (Some write)

-- The journal has no entry of the call, and the reply is that after as many entries as the place says.
pub record WasSeen (limits : Limits) (journal : List Entry) (pass call place : ℕ) (command : Command) (reply : Reply) : Type 0 where
  pub before : List Entry
  pub after : List Entry
  pub stands : journal ≡ before ++ after
  pub at : place ≡ length before
  pub none : entries_at pass call journal ≡ []
  pub answer : IsAnswer limits before command reply None

-- in this journal the call of the pass had this result
abbrev pub IsResult : Limits → List Entry → ℕ → ℕ → Command → Numbered → Type 0
IsResult limits journal pass call command (At place reply) =
    WasEntered limits journal pass call place command reply ⊎ WasSeen limits journal pass call place command reply
IsResult limits journal pass call command NoMemory = entries_at pass call journal ≡ []

-- ---- a pass

-- what is known of a pass: its number, how many calls it has made, and the journal that it has seen
pub record PassView : Type 0 where
  pub number : ℕ
  pub calls : ℕ
  pub journal : List Entry

-- its own entries
abbrev pub own : PassView → List Entry
own p = entries_of p.number p.journal

-- it has made no call and has no entry
pub record IsFresh (p : PassView) : Type 0 where
  pub calls : p.calls ≡ 0
  pub own : own p ≡ []

-- ---- a pass before a call and after it

-- one entry of its own is new, of the call that it made, and is the last of the journal
pub record GainsLast (old new : PassView) : Type 0 where
  pub write : Write
  pub before : List Entry
  pub last : new.journal ≡ before ++ entry new.number new.calls write ∷ []
  pub gained : own new ≡ own old ++ entry new.number new.calls write ∷ []

-- no entry of its own is new, or that one
abbrev pub GainsAtMostLast : PassView → PassView → Type 0
GainsAtMostLast old new = (own new ≡ own old) ⊎ GainsLast old new

-- the place is the length of the journal
abbrev pub IsAtEnd : List Entry → Numbered → Type 0
IsAtEnd journal (At place reply) = place ≡ length journal
IsAtEnd journal NoMemory = Unit {0}
