-- What a large run leaves.
use Rattle.std.specs.Prelude.{◌≡◌, ◌≢◌, ◌⊎◌, ℕ, ◌+◌, ◌-◌, ◌<◌, ◌≤◌, AllPairs, All, List, [], length, slice_index_or, IfSome}
use Rattle.pj_name.specs.Name.{name_of}
use Rattle.pj_machine.specs.declared.command.Command.{Command}
use Rattle.pj_machine.specs.declared.journal.Entry.{Entry}
use Rattle.pj_machine.specs.declared.limits.Limits.{Limits}
use Rattle.pj_machine.specs.Call.{entries_of}
use Rattle.pj_machine.specs.Entries.{commands}
use Rattle.pj_machine.specs.Legal.{IsLegal}
use Rattle.pj_session.specs.declared.end.End.TheVariants.{Done, Memory}
use Rattle.pj_session.specs.declared.end.Ended.{Ended}
use Rattle.pj_gen.specs.Requests.{opening_requests, session_requests}
use Rattle.pj_gen.specs.Summary.{all_texts, IsSummary}
use Rattle.pj_load.specs.declared.run.Loaded.{Loaded}

-- the ends of the sessions by rising pass: that of the prelude, the others, and that of the closing
pub record AreEnds (sessions : ℕ) (ends : List Ended) : Type 0 where
  pub as_many : length ends ≡ sessions + 2
  pub numbers : (i : ℕ) (d : Ended) → i < length ends → (slice_index_or ends i d).pass ≡ i + 1
  pub each : All (λ e. (e.end ≡ Done) ⊎ (e.end ≡ Memory)) ends

-- the entries of the pass are the writes of these requests, all of them and in their order
abbrev pub HasWrites : List Entry → ℕ → List Command → Type 0
HasWrites journal pass requests = commands (entries_of pass journal) ≡ requests

-- no two texts of the run have one name
abbrev pub NamesDiffer : ℕ → ℕ → Type 0
NamesDiffer number changes = AllPairs (λ a b. name_of a ≢ name_of b) (all_texts number (changes - 1))

-- all sessions are done, each pass has entered its script, and, unless two texts have one name, the summary is that of the run
pub record HasSummary (number changes sessions : ℕ) (journal : List Entry) (ends : List Ended) (summary : List ℕ) : Type 0 where
  pub done : All (λ e. e.end ≡ Done) ends
  pub prelude : HasWrites journal 1 opening_requests
  pub each : (s : ℕ) → s < sessions → HasWrites journal (s + 2) (session_requests number sessions s (changes - 1))
  pub closing : HasWrites journal (sessions + 2) []
  pub summary_is : NamesDiffer number changes → IsSummary number changes sessions summary

-- a large run: the prelude is of pass 1, session s, counted from 0, of pass s + 2, and the closing of the pass behind them
pub record IsLargeRun (limits : Limits) (number changes sessions : ℕ) (loaded : Loaded) : Type 0 where
  pub legal : IsLegal limits loaded.journal
  pub of_sessions : All (λ e. (0 < e.pass) × (e.pass ≤ sessions + 2)) loaded.journal
  pub ends : AreEnds sessions loaded.ends
  pub summary : IfSome loaded.summary (λ bytes. HasSummary number changes sessions loaded.journal loaded.ends bytes)
