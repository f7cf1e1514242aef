-- Shared records, seen as the records themselves.
use Rattle.std.specs.Prelude.{List, map}
use Rattle.std.specs.declared.sync.Arc.{Arc}
use Rattle.std.specs.Arc.{arc_value}
use Rattle.pj_change.specs.declared.change.Record.{Record}

-- the records that the pointers share
abbrev pub records : {Z : Type 0} → List (Arc Record Z) → List Record
records pointers = map arc_value pointers
