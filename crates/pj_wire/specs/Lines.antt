-- Which requests do not stand at the front.
use Rattle.std.specs.Prelude.{ℕ, List}
use Rattle.pj_name.specs.declared.name.Name.{Name}
use Rattle.pj_machine.specs.declared.command.Command.{Command}
use Rattle.pj_machine.specs.declared.command.Command.TheVariants as command
use Rattle.pj_wire.specs.Spelled.{StandsNone}
use Rattle.pj_wire.specs.Requests.{spelling, IsRequest}

-- none of the requests that are made so
abbrev pub NoneMade : {V : Type 0} → (V → Command) → List ℕ → Type 0
NoneMade make bytes = StandsNone (λ v. spelling (make v)) (λ v. IsRequest (make v)) bytes

-- not this request
abbrev pub NotThis : Command → List ℕ → Type 0
NotThis x bytes = NoneMade (λ (_ : Unit {0}). x) bytes

-- none of one word
abbrev pub HasNoBare : List ℕ → Type 0
HasNoBare bytes = NotThis command.Channels bytes × NotThis command.Journal bytes × NotThis command.Quit bytes

-- none of a change
abbrev pub HasNoOfChange : List ℕ → Type 0
HasNoOfChange bytes = NoneMade command.Get bytes × NoneMade command.Inverse bytes

-- none of a channel
abbrev pub HasNoOfChannel : List ℕ → Type 0
HasNoOfChannel bytes =
    NoneMade command.Print bytes × NoneMade command.Graph bytes × NoneMade command.Log bytes × NoneMade command.New bytes × NoneMade command.Drop bytes

-- none of two channels
abbrev pub HasNoOfChannels : List ℕ → Type 0
HasNoOfChannels bytes =
    NoneMade (λ (p : List ℕ × List ℕ). command.Pull p.0 p.1) bytes × NoneMade (λ (p : List ℕ × List ℕ). command.Fork p.0 p.1) bytes

-- none of a channel and a change
abbrev pub HasNoOfChannelChange : List ℕ → Type 0
HasNoOfChannelChange bytes =
    NoneMade (λ (p : List ℕ × Name). command.Apply p.0 p.1) bytes
    × NoneMade (λ (p : List ℕ × Name). command.Unrecord p.0 p.1) bytes
    × NoneMade (λ (p : List ℕ × Name). command.Uproot p.0 p.1) bytes

-- no request, unless it is a `put`
pub record IsNoLine (bytes : List ℕ) : Type 0 where
  pub bare : HasNoBare bytes
  pub change : HasNoOfChange bytes
  pub channel : HasNoOfChannel bytes
  pub channels : HasNoOfChannels bytes
  pub channel_change : HasNoOfChannelChange bytes
