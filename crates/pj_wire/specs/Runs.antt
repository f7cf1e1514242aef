-- What a decoder is fed and gives, one after the other.
use Rattle.std.specs.Prelude.{◌≡◌, ℕ, List, [], ◌∷◌, ◌++◌}
use Rattle.pj_machine.specs.declared.command.Command.{Command}
use Rattle.pj_wire.specs.declared.decoder.Next.TheVariants.{Message}
use Rattle.pj_wire.specs.Takes.{Takes}

-- what happens to a decoder
pub data Event : Type 0 where
  -- this piece was fed
  Fed : List ℕ → Event
  -- this request was given
  Given : Command → Event

-- the bytes that were fed
abbrev pub fed : List Event → List ℕ
fed [] = []
fed (Fed piece ∷ events) = piece ++ fed events
fed (Given x ∷ events) = fed events

-- the requests that were given
abbrev pub given : List Event → List Command
given [] = []
given (Fed piece ∷ events) = given events
given (Given x ∷ events) = x ∷ given events

-- from these bytes left over the decoder goes through these events to those
abbrev pub Ran : List ℕ → List Event → List ℕ → Type 0
Ran old [] new = new ≡ old
Ran old (Fed piece ∷ events) new = Ran (old ++ piece) events new
Ran old (Given x ∷ events) new = (between : List ℕ) × Takes old between (Message x) × Ran between events new
