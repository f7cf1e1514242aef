-- What contracts see of the state of a repository.
use Rattle.std.specs.Prelude.{ℕ, List, ◌++◌, ◌∷◌, []}
use Rattle.pj_machine.specs.declared.command.Write.{Write}
use Rattle.pj_machine.specs.declared.journal.Entry.{Entry}
use Rattle.pj_machine.specs.declared.limits.Limits.{Limits}
use Rattle.pj_machine.specs.Call.{entry}
use Rattle.pj_machine.specs.Replay.{IsReplay}
use Rattle.pj_machine.specs.State.{State}

-- its limits, and its journal, which tells the rest
pub record Kept : Type 0 where
  pub limits : Limits
  pub journal : List Entry

-- what is seen of a state with these limits and this journal
abbrev pub kept : Limits → List Entry → Kept
kept limits journal = record { limits = limits; journal = journal }

-- one entry more
abbrev pub pushed : Kept → ℕ → ℕ → Write → Kept
pushed k pass call write = kept k.limits (k.journal ++ entry pass call write ∷ [])

-- this holds of the state that the journal leads to
abbrev pub After : List Entry → (State → Type 0) → Type 0
After journal P = (s : State) → IsReplay journal s → P s
