-- Requests as bytes.
use Rattle.std.specs.Prelude.{◌≡◌, ◌≢◌, ℕ, ◌≤◌, Bool, false, List, [], ◌∷◌, ◌++◌, length, codes, decimal, All, if◌then◌else◌}
use Rattle.std.specs.List.{flat_map}
use Rattle.pj_name.specs.Name.{hex}
use Rattle.pj_change.specs.Text.{line}
use Rattle.pj_machine.specs.ChannelName.{IsChannelName}
use Rattle.pj_machine.specs.declared.command.Command.{Command}
use Rattle.pj_machine.specs.declared.command.Command.TheVariants as command
use Rattle.pj_wire.specs.Spelled.{EndsWithin}

-- ---- one request

-- a line, and behind that of a `put` its text and a newline
abbrev pub spelling : Command → List ℕ
spelling (command.Put text) = line (codes "put" ∷ decimal (length text) ∷ []) ++ text ++ 10 ∷ []
spelling (command.Get change) = line (codes "get" ∷ hex change.bytes ∷ [])
spelling (command.Inverse change) = line (codes "inverse" ∷ hex change.bytes ∷ [])
spelling (command.New name) = line (codes "new" ∷ name ∷ [])
spelling (command.Fork from to) = line (codes "fork" ∷ from ∷ to ∷ [])
spelling (command.Drop name) = line (codes "drop" ∷ name ∷ [])
spelling (command.Apply name change) = line (codes "apply" ∷ name ∷ hex change.bytes ∷ [])
spelling (command.Unrecord name change) = line (codes "unrecord" ∷ name ∷ hex change.bytes ∷ [])
spelling (command.Uproot name change) = line (codes "uproot" ∷ name ∷ hex change.bytes ∷ [])
spelling (command.Pull to from) = line (codes "pull" ∷ to ∷ from ∷ [])
spelling (command.Graph name) = line (codes "graph" ∷ name ∷ [])
spelling (command.Print name) = line (codes "print" ∷ name ∷ [])
spelling (command.Log name) = line (codes "log" ∷ name ∷ [])
spelling command.Channels = line (codes "channels" ∷ [])
spelling command.Journal = line (codes "journal" ∷ [])
spelling command.Quit = line (codes "quit" ∷ [])

-- a text is not too long, and channels have names that a channel may have
abbrev pub IsRequest : Command → Type 0
IsRequest (command.Put text) = length text ≤ 16777216
IsRequest (command.New name) = IsChannelName name
IsRequest (command.Fork from to) = IsChannelName from × IsChannelName to
IsRequest (command.Drop name) = IsChannelName name
IsRequest (command.Apply name change) = IsChannelName name
IsRequest (command.Unrecord name change) = IsChannelName name
IsRequest (command.Uproot name change) = IsChannelName name
IsRequest (command.Pull to from) = IsChannelName to × IsChannelName from
IsRequest (command.Graph name) = IsChannelName name
IsRequest (command.Print name) = IsChannelName name
IsRequest (command.Log name) = IsChannelName name
IsRequest x = Unit {0}

-- ---- what stands at the front of bytes

-- they begin with no whole request
abbrev pub HasNone : List ℕ → Type 0
HasNone bytes = (x : Command) (rest : List ℕ) → IsRequest x → bytes ≢ spelling x ++ rest

-- they are a front of a request, and not all of it; no bytes at all are one
abbrev pub IsPart : List ℕ → Type 0
IsPart = EndsWithin spelling IsRequest

-- they are a front of no request
abbrev pub BeginsNone : List ℕ → Type 0
BeginsNone bytes = (x : Command) (more : List ℕ) → IsRequest x → bytes ++ more ≢ spelling x

-- they neither begin with a request nor are a front of one
pub record IsStrange (bytes : List ℕ) : Type 0 where
  pub has_none : HasNone bytes
  pub begins_none : BeginsNone bytes

-- ---- all requests of bytes

-- a request that has a reply
pub record IsCall (x : Command) : Type 0 where
  pub allowed : IsRequest x
  pub replied : x ≢ command.Quit

-- the bytes of requests, one after the other
abbrev pub spellings : List Command → List ℕ
spellings xs = flat_map spelling xs

-- the request to quit, if it came
abbrev pub quitting : Bool → List ℕ
quitting quit = if quit then spelling command.Quit else []

-- the bytes begin with these requests, `xs` and then perhaps the one to quit; the rest is left over
pub record Begins (bytes : List ℕ) (xs : List Command) (quit : Bool) (rest : List ℕ) : Type 0 where
  pub whole : bytes ≡ spellings xs ++ quitting quit ++ rest
  pub each : All IsCall xs

-- these are the requests of the bytes, up to the first one to quit, or as many as there are
pub record HasRequests (bytes : List ℕ) (xs : List Command) (quit : Bool) (rest : List ℕ) : Type 0 where
  pub begins : Begins bytes xs quit rest
  pub no_more : quit ≡ false → HasNone rest
