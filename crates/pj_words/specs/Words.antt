-- Which work the words of the command `serve` ask for.
use Rattle.std.specs.Prelude.{ℕ, ◌+◌, ◌*◌, ◌-◌, ◌≤◌, ◌^◌, ◌&&◌, List, [], ◌∷◌, codes, decimal, nat_le, nat_lt, true, Option, Some, None, if◌then◌else◌}
use Rattle.std.specs.Str.{bytes_eq}
use Rattle.std.specs.Str.Parse.{digits_value}
use Rattle.clap.specs.Words.{App, Kinds, Row, Rule, Text, fault_of, first_of, matches_of, new_app, new_rule, with_rule}
use Rattle.pj_words.specs.declared.words.Request.{Request}

-- an address, so many sessions and workers, the seconds of silence after which a connection is given no more time (0: no limit), and the
-- mode of the file of a socket
pub record Work : Type 0 where
  pub address : Text
  pub sessions : ℕ
  pub workers : ℕ
  pub idle : ℕ
  pub mode : ℕ

-- the work that a request asks for
abbrev pub work_of : Request → Work
work_of r = record { address = r.address.now; sessions = r.sessions; workers = r.workers; idle = r.idle; mode = r.mode }

-- the address is a positional, and required
abbrev pub address_rule : Rule
address_rule = record (new_rule (codes "address")) { required = true }

-- an option of one value is required, and has a long name alone
abbrev pub option_rule : Text → Rule
option_rule name = record (new_rule name) { long = Some name; required = true }

-- an option of one value need not be there, and has a long name alone
abbrev pub extra_rule : Text → Rule
extra_rule name = record (new_rule name) { long = Some name }

-- what the command requires, as `clap` has it
abbrev pub required_app : App
required_app =
    with_rule (with_rule (with_rule (new_app (codes "serve")) address_rule) (option_rule (codes "sessions"))) (option_rule (codes "workers"))

-- the command, as `clap` has it
abbrev pub serve_app : App
serve_app = with_rule (with_rule required_app (extra_rule (codes "idle"))) (extra_rule (codes "mode"))

-- the number that a text is: decimal digits without leading zeros, below 2 ^ 32
abbrev pub number_of : Text → Option ℕ
number_of text =
    if bytes_eq text (decimal (digits_value 10 text)) && nat_lt (digits_value 10 text) (2 ^ 32) then Some (digits_value 10 text) else None

-- the octal digit that a code is
abbrev pub octal_digit : ℕ → Option ℕ
octal_digit code = if nat_le 48 code && nat_le code 55 then Some (code - 48) else None

-- the number of three octal digits
abbrev pub octal_number : Option ℕ → Option ℕ → Option ℕ → Option ℕ
octal_number (Some a) (Some b) (Some c) = Some (64 * a + 8 * b + c)
octal_number (Some a) (Some b) None = None
octal_number (Some a) None third = None
octal_number None second third = None

-- the mode that a text is: three octal digits
abbrev pub mode_of : Text → Option ℕ
mode_of (a ∷ b ∷ c ∷ []) = octal_number (octal_digit a) (octal_digit b) (octal_digit c)
mode_of text = None

-- the number that the value of an option is, and this one where there is no value
abbrev pub value_or : ℕ → (Text → Option ℕ) → Option Text → Option ℕ
value_or default read None = Some default
value_or default read (Some text) = read text

-- 1 to 64 workers, sessions from as many to 65,536, and at most a day of silence
abbrev pub bounded : Text → Option ℕ → Option ℕ → Option ℕ → Option ℕ → Option Work
bounded address (Some sessions) (Some workers) (Some idle) (Some mode) =
    if nat_le 1 workers && (nat_le workers 64 && (nat_le workers sessions && (nat_le sessions 65536 && nat_le idle 86400)))
    then Some (record { address = address; sessions = sessions; workers = workers; idle = idle; mode = mode }) else None
bounded address (Some sessions) (Some workers) (Some idle) None = None
bounded address (Some sessions) (Some workers) None mode = None
bounded address (Some sessions) None idle mode = None
bounded address None workers idle mode = None

-- the workers and sessions are within their bounds
abbrev pub IsBounded : Work → Type 0
IsBounded work = (1 ≤ work.workers) × (work.workers ≤ 64) × (work.workers ≤ work.sessions) × (work.sessions ≤ 65536)

-- the work of an address and two texts that are numbers; for the seconds of silence 300 stands, and for the mode 600, where nothing is said
abbrev pub texts_of : Option Text → Option Text → Option Text → Option Text → Option Text → Option Work
texts_of (Some address) (Some sessions) (Some workers) idle mode =
    bounded address (number_of sessions) (number_of workers) (value_or 300 number_of idle) (value_or 384 mode_of mode)
texts_of (Some address) (Some sessions) None idle mode = None
texts_of (Some address) None workers idle mode = None
texts_of None sessions workers idle mode = None

-- the first value of each argument
abbrev pub values_of : List Row → Option Work
values_of rows = texts_of (first_of (codes "address") rows) (first_of (codes "sessions") rows) (first_of (codes "workers") rows)
    (first_of (codes "idle") rows) (first_of (codes "mode") rows)

-- the kinds of fault that `clap` finds in the words for a command
unfoldable pub faults_in : App → List Text → Kinds
faults_in app words = fault_of app words

-- the rows that it matches in them
unfoldable pub rows_in : App → List Text → List Row
rows_in app words = matches_of app words

-- what the rows ask for, where there is no fault
abbrev pub asked_by : Kinds → List Row → Option Work
asked_by [] rows = values_of rows
asked_by (kind ∷ kinds) rows = None

-- what the words ask for, of which the first is the command's name
abbrev pub asked_of : List Text → Option Work
asked_of words = asked_by (faults_in serve_app words) (rows_in serve_app words)
