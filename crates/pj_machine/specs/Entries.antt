-- Entries by what was asked for, and by the calls that entered them.
use Rattle.std.specs.Prelude.{ℕ, ◌+◌, List, [], ◌∷◌, map}
use Rattle.pj_machine.specs.declared.command.Command.{Command}
use Rattle.pj_machine.specs.declared.command.Write.{Write}
use Rattle.pj_machine.specs.declared.journal.Entry.{Entry}
use Rattle.pj_machine.specs.Call.{entry}
use Rattle.pj_machine.specs.Legal.{command_of}

-- the commands of entries
abbrev pub commands : List Entry → List Command
commands = map (λ e. command_of e.write)

-- the writes of entries
abbrev pub writes : List Entry → List Write
writes = map (λ e. e.write)

-- these writes, of one pass, by the calls from this number on
abbrev pub numbered_from : ℕ → ℕ → List Write → List Entry
numbered_from pass call [] = []
numbered_from pass call (w ∷ ws) = entry pass call w ∷ numbered_from pass (call + 1) ws
