-- What happens in an exchange, in order.
use Rattle.std.specs.Prelude.{List, [], ◌∷◌}
use Rattle.pj_machine.specs.declared.command.Command.{Command}
use Rattle.pj_machine.specs.declared.reply.Numbered.{Numbered}

-- a command was answered here; a request was sent, and the reply to it was read
pub data Event : Type 0 where
  Here : Command → Numbered → Event
  There : Command → Numbered → Event

-- the commands that were answered here
abbrev pub asked : List Event → List Command
asked [] = []
asked (Here x r ∷ events) = x ∷ asked events
asked (There x r ∷ events) = asked events

-- with these results
abbrev pub told : List Event → List Numbered
told [] = []
told (Here x r ∷ events) = r ∷ told events
told (There x r ∷ events) = told events

-- the requests that were sent and replied
abbrev pub sent : List Event → List Command
sent [] = []
sent (Here x r ∷ events) = sent events
sent (There x r ∷ events) = x ∷ sent events

-- with these replies
abbrev pub got : List Event → List Numbered
got [] = []
got (Here x r ∷ events) = got events
got (There x r ∷ events) = r ∷ got events
