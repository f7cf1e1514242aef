-- Which command the words of the command line are.
use Rattle.std.specs.Prelude.{◌≡◌, ℕ, ◌≤◌, Bool, true, false, ◌&&◌, List, [], ◌∷◌, length, drop, map, nat_le, codes, Option, Some, None, option_map, if◌then◌else◌, string_bytes}
use Rattle.std.specs.Str.{bytes_eq}
use Rattle.std.specs.declared.string.String.{String}
use Rattle.std.specs.declared.alloc.Global.{Global}
use Rattle.pj_words.specs.Words.{Work, asked_of, number_of, work_of, IsBounded}
use Rattle.pj_serve.specs.declared.status.Status.{Status}
use Rattle.pj_serve.specs.declared.status.Status.TheVariants.{Done, Malformed, Words, ReadFault, WriteFault, Memory, Session, Journal, Store}
use Rattle.pj_serve.specs.declared.task.Loading.{Loading}
use Rattle.pj_serve.specs.declared.task.Task.{Task}
use Rattle.pj_serve.specs.declared.task.Task.TheVariants as task

-- a command, with what its words ask for
pub data TaskView : Type 0 where
  Show One Run : TaskView
  Serve : Work → TaskView
  Load : Loading → TaskView

-- a task as a command with what its words ask for
abbrev pub view_of : Task → TaskView
view_of task.Show = Show
view_of task.One = One
view_of task.Run = Run
view_of (task.Serve request) = Serve (work_of request)
view_of (task.Load loading) = Load loading

-- the word has these bytes
abbrev pub is_word : String Global → List ℕ → Bool
is_word word text = bytes_eq (string_bytes word) text

-- the words behind the first
abbrev pub paths_of : List (String Global) → List (String Global)
paths_of words = drop 1 words

-- the first word is this one
abbrev pub begins_with : List (String Global) → List ℕ → Bool
begins_with [] text = false
begins_with (word ∷ words) text = is_word word text

-- the words are those of `serve`, which are read by `clap`
abbrev pub is_to_serve : List (String Global) → Bool
is_to_serve words = begins_with words (codes "serve")

-- the words are those of `load`
abbrev pub is_to_load : List (String Global) → Bool
is_to_load words = begins_with words (codes "load")

-- 1 to 16384 changes, and 1 to 8 sessions
abbrev pub bounded_run : Option ℕ → Option ℕ → Option ℕ → Option Loading
bounded_run (Some number) (Some changes) (Some sessions) =
    if nat_le 1 changes && (nat_le changes 16384 && (nat_le 1 sessions && nat_le sessions 8))
    then Some (record { number = number; changes = changes; sessions = sessions }) else None
bounded_run (Some number) (Some changes) None = None
bounded_run (Some number) None sessions = None
bounded_run None changes sessions = None

-- the changes and sessions of a large run are within their bounds
abbrev pub IsBoundedRun : Loading → Type 0
IsBoundedRun loading = (1 ≤ loading.changes) × (loading.changes ≤ 16384) × (1 ≤ loading.sessions) × (loading.sessions ≤ 8)

-- the large run that the words behind `load` ask for: three numbers
abbrev pub load_of : List (String Global) → Option Loading
load_of (number ∷ changes ∷ sessions ∷ []) =
    bounded_run (number_of (string_bytes number)) (number_of (string_bytes changes)) (number_of (string_bytes sessions))
load_of words = None

-- `show` alone, `one` alone, and `run` with 1 to 64 paths are commands
abbrev pub plain_of : List (String Global) → Option TaskView
plain_of [] = None
plain_of (word ∷ []) =
    if is_word word (codes "show") then Some Show else if is_word word (codes "one") then Some One else None
plain_of (word ∷ path ∷ paths) =
    if is_word word (codes "run") && nat_le (length paths) 63 then Some Run else None

-- so are `serve` with the words that it takes, and `load` with three numbers; all other words are none
abbrev pub task_of : List (String Global) → Option TaskView
task_of words =
    if is_to_serve words then option_map Serve (asked_of (map string_bytes words))
    else if is_to_load words then option_map Load (load_of (paths_of words)) else plain_of words

-- the status where there is no command: the words are none, or they are those of `serve` and memory for reading them was wanted
abbrev pub LacksTask : List (String Global) → Status → Type 0
LacksTask words Words = task_of words ≡ None
LacksTask words Memory = is_to_serve words ≡ true
LacksTask words Done = ⊥
LacksTask words Malformed = ⊥
LacksTask words ReadFault = ⊥
LacksTask words WriteFault = ⊥
LacksTask words Session = ⊥
LacksTask words Journal = ⊥
LacksTask words Store = ⊥

-- the numbers that a task has are within their bounds
abbrev pub IsWithinBounds : Task → Type 0
IsWithinBounds (task.Serve request) = IsBounded (work_of request)
IsWithinBounds (task.Load loading) = IsBoundedRun loading
IsWithinBounds task.Show = Unit {0}
IsWithinBounds task.One = Unit {0}
IsWithinBounds task.Run = Unit {0}
