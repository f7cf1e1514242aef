-- What is still to come of a request that is cut.
use Rattle.std.specs.Prelude.{◌≡◌, ℕ, ◌-◌, ◌<◌, ◌≤◌, ◌↔◌, Bool, true, List, [], ◌∷◌, ◌++◌, Option, Some, None, length, take, decimal}
use Rattle.std.specs.List.{AllPass}
use Rattle.pj_name.specs.Name.{is_lower_hex_digit}
use Rattle.pj_machine.specs.ChannelName.{is_channel_byte}
use Rattle.pj_machine.specs.declared.command.Command.{Command}
use Rattle.pj_wire.specs.declared.verb.Verb.{Verb}
use Rattle.pj_wire.specs.declared.verb.Verb.TheVariants as verb
use Rattle.pj_wire.specs.declared.stage.After.{After}
use Rattle.pj_wire.specs.declared.stage.After.TheVariants as after
use Rattle.pj_wire.specs.declared.stage.Stage.{Stage}
use Rattle.pj_wire.specs.declared.stage.Stage.TheVariants as stage
use Rattle.pj_wire.specs.Verbs.{word_of}
use Rattle.pj_wire.specs.Requests.{spelling, IsRequest}

-- the bytes and what follows them are a request
abbrev pub Completes : List ℕ → List ℕ → Type 0
Completes bytes more = (x : Command) × IsRequest x × (bytes ++ more ≡ spelling x)

-- the bytes are a word of such bytes, with at least and at most so many, the byte that ends it, and what stands behind that
pub record IsWordThen (is : ℕ → Bool) (least most end : ℕ) (Behind : List ℕ → Type 0) (bytes : List ℕ) : Type 0 where
  pub word : List ℕ
  pub rest : List ℕ
  pub whole : bytes ≡ word ++ end ∷ rest
  pub kind : AllPass is word
  pub enough : least ≤ length word
  pub few : length word ≤ most
  pub behind : Behind rest

-- there are no more bytes
abbrev pub IsEnd : List ℕ → Type 0
IsEnd bytes = bytes ≡ []

-- what follows the name of a channel and the byte that ends it
abbrev pub AfterRest : After → List ℕ → Type 0
AfterRest after.End bytes = IsEnd bytes
AfterRest after.Channel bytes = IsWordThen is_channel_byte 1 64 10 IsEnd bytes
AfterRest after.Change bytes = IsWordThen is_lower_hex_digit 64 64 10 IsEnd bytes

-- the byte that ends the name of a channel, by what follows it: a newline or a space
abbrev pub end_before : After → ℕ
end_before after.End = 10
end_before after.Channel = 32
end_before after.Change = 32

-- the digits that were read
abbrev pub digits_read : Option ℕ → List ℕ
digits_read None = []
digits_read (Some n) = decimal n

-- behind these digits of a length the bytes are the others, and a text of this length
pub record IsLengthThen (digits bytes : List ℕ) : Type 0 where
  pub more : List ℕ
  pub text : List ℕ
  pub number : digits ++ more ≡ decimal (length text)
  pub small : length text ≤ 16777216
  pub whole : bytes ≡ more ++ 10 ∷ (text ++ 10 ∷ [])

-- the bytes complete the request
abbrev pub Rest : Stage → List ℕ → Type 0
Rest (stage.Verb v read) bytes = Completes (take read (word_of v)) bytes
Rest (stage.Channel read then) bytes = IsWordThen is_channel_byte (1 - read) (64 - read) (end_before then) (AfterRest then) bytes
Rest (stage.Change read) bytes = IsWordThen is_lower_hex_digit (64 - read) (64 - read) 10 IsEnd bytes
Rest (stage.Length value) bytes = IsLengthThen (digits_read value) bytes
Rest (stage.Text missing) bytes = IsWordThen (λ _. true) missing missing 10 IsEnd bytes

-- so much of the part may have been read
abbrev pub IsStage : Stage → Type 0
IsStage (stage.Verb v read) = read < length (word_of v)
IsStage (stage.Channel read then) = read ≤ 64
IsStage (stage.Change read) = read ≤ 64
IsStage (stage.Length None) = Unit {0}
IsStage (stage.Length (Some n)) = n ≤ 16777216
IsStage (stage.Text missing) = Unit {0}

-- what is still to come is what completes the stage; without one there is nothing to come
abbrev pub Moves : (List ℕ → Type 0) → Option Stage → Type 0
Moves ToCome (Some s) = IsStage s × ((more : List ℕ) → ToCome more ↔ Rest s more)
Moves ToCome None = (more : List ℕ) → ToCome more → more ≡ []

-- the stage behind a verb
abbrev pub fields_of : Verb → Option Stage
fields_of verb.Channels = None
fields_of verb.Journal = None
fields_of verb.Quit = None
fields_of verb.Get = Some (stage.Change 0)
fields_of verb.Inverse = Some (stage.Change 0)
fields_of verb.Put = Some (stage.Length None)
fields_of verb.Drop = Some (stage.Channel 0 after.End)
fields_of verb.Graph = Some (stage.Channel 0 after.End)
fields_of verb.Log = Some (stage.Channel 0 after.End)
fields_of verb.New = Some (stage.Channel 0 after.End)
fields_of verb.Print = Some (stage.Channel 0 after.End)
fields_of verb.Fork = Some (stage.Channel 0 after.Channel)
fields_of verb.Pull = Some (stage.Channel 0 after.Channel)
fields_of verb.Apply = Some (stage.Channel 0 after.Change)
fields_of verb.Unrecord = Some (stage.Channel 0 after.Change)
fields_of verb.Uproot = Some (stage.Channel 0 after.Change)

-- of the bytes so many were looked at, and the stage says what completes them
pub record IsSeen (bytes : List ℕ) (seen : ℕ) (stage : Stage) : Type 0 where
  pub within : seen ≤ length bytes
  pub allowed : IsStage stage
  pub to_come : (more : List ℕ) → Completes (take seen bytes) more ↔ Rest stage more
