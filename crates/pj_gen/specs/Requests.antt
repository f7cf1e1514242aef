-- The requests of the large run, and its scripts.
use Rattle.std.specs.Prelude.{◌≡◌, ℕ, zero, suc, ◌+◌, ◌-◌, ◌%◌, List, [], ◌∷◌, ◌++◌, codes, map, nat_eq, if◌then◌else◌}
use Rattle.pj_name.specs.Name.{name_of}
use Rattle.pj_machine.specs.declared.command.Command.{Command}
use Rattle.pj_machine.specs.declared.command.Command.TheVariants.{Put, Fork, Apply, Unrecord, Print, Quit}
use Rattle.pj_wire.specs.Requests.{spelling, spellings}
use Rattle.pj_gen.specs.declared.parts.Scripts.{Scripts}
use Rattle.pj_gen.specs.Changes.{eight, line_name, zero_text, zero_name, change_text}

-- the channel of all changes; those of the lines have the lines' names
abbrev pub main : List ℕ
main = codes "main"

-- change 0 stands in every channel
unfoldable pub opening_requests : List Command
opening_requests = Put zero_text ∷ Apply main zero_name ∷ map (λ l. Fork main (line_name l)) eight

-- A change of a line is applied to the line's channel and to `main`. Where its number is a multiple of 15 it is taken out of
-- the line's channel and applied again.
unfoldable pub requests_for : ℕ → ℕ → List ℕ → List Command
requests_for l i text =
    let name = name_of text in
    let again = if nat_eq (i % 15) 0 then Unrecord (line_name l) name ∷ Apply (line_name l) name ∷ [] else [] in
    Put text ∷ Apply (line_name l) name ∷ Apply main name ∷ again

-- the requests of session s for the changes 1 to n: those of the lines l with l mod sessions = s
unfoldable pub session_requests : ℕ → ℕ → ℕ → ℕ → List Command
session_requests number sessions s zero = []
session_requests number sessions s (suc n) =
    session_requests number sessions s n
    ++ (if nat_eq (n % 8 % sessions) s then requests_for (n % 8) (n + 1) (change_text number n) else [])

-- a print of each channel, by bytes of its name
unfoldable pub closing_requests : List Command
closing_requests = map (λ l. Print (line_name l)) eight ++ Print main ∷ []

-- the bytes of a session that quits after these requests
abbrev pub script : List Command → List ℕ
script requests = spellings requests ++ spelling Quit

-- the scripts of the first n sessions
unfoldable pub session_scripts : ℕ → ℕ → ℕ → ℕ → List (List ℕ)
session_scripts number changes sessions zero = []
session_scripts number changes sessions (suc n) =
    session_scripts number changes sessions n ++ script (session_requests number sessions n (changes - 1)) ∷ []

-- the scripts of a large run
pub record AreScripts (number changes sessions : ℕ) (scripts : Scripts) : Type 0 where
  pub prelude_is : scripts.prelude ≡ script opening_requests
  pub sessions_are : scripts.sessions ≡ session_scripts number changes sessions sessions
  pub closing_is : scripts.closing ≡ script closing_requests
