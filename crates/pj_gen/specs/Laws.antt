-- Laws of large runs.
use Rattle.std.specs.Prelude.{◌≡◌, ◌≢◌, ℕ, ◌+◌, ◌%◌, ◌^◌, ◌<◌, true, List, [], Some}
use Rattle.pj_change.specs.Text.{Parts, text_of}
use Rattle.pj_change.specs.Rules.{IsChange}
use Rattle.pj_machine.specs.declared.command.Command.{Command}
use Rattle.pj_wire.specs.Requests.{HasRequests}
use Rattle.pj_gen.specs.declared.changes.Insertion.{Insertion}
use Rattle.pj_gen.specs.Changes.{zero_text, zero_name, last_insertion, change_text}
use Rattle.pj_gen.specs.Requests.{opening_requests, session_requests, closing_requests, script}

-- the bytes of the script are these requests and the one to quit, and nothing else
abbrev pub IsWhole : List Command → Type 0
IsWhole xs = HasRequests (script xs) xs true []

-- all scripts of a large run are requests to their ends
pub record ScriptsAreWhole : Type 0 where
  pub prelude_is : IsWhole opening_requests
  pub sessions_are : (number sessions s n : ℕ) → n + 1 < 2 ^ 32 → IsWhole (session_requests number sessions s n)
  pub closing_is : IsWhole closing_requests

-- the text is that of a change
abbrev pub IsText : List ℕ → Type 0
IsText text = (p : Parts) × IsChange p × (text ≡ text_of p)

-- Every text of a large run is that of a change. Where a change needs the last insertion of its line, that one has another name
-- than change 0.
pub record TextsAreChanges : Type 0 where
  pub zero_is : IsText zero_text
  pub later_are : (number n : ℕ) → n + 1 < 2 ^ 32
      → ((last : Insertion) → last_insertion number (n % 8) n ≡ Some last → last.name ≢ zero_name) → IsText (change_text number n)
