-- The records that a store of changes holds.
use Rattle.std.specs.Prelude.{List, Option}
use Rattle.std.specs.Map.{lookup}
use Rattle.std.specs.Option.{option_map}
use Rattle.std.specs.declared.sync.Arc.{Arc}
use Rattle.std.specs.Arc.{arc_value}
use Rattle.pj_name.specs.declared.name.Name.{Name}
use Rattle.pj_name.specs.Name.{same_name}
use Rattle.pj_change.specs.declared.change.Record.{Record}

-- the record of this name among the pairs of a map
abbrev pub record_in : {Z : Type 0} → List (Name × Arc Record Z) → Name → Option Record
record_in pairs name = option_map arc_value (lookup (same_name name) pairs)
