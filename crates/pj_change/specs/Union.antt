-- The union of two lists of changes.
use Rattle.std.specs.Prelude.{not, List, ◌++◌, filter}
use Rattle.pj_change.specs.declared.change.Record.{Record}
use Rattle.pj_change.specs.Lawful.{is_held}

-- a, and then what a lacks of b in the order of b
abbrev pub union : List Record → List Record → List Record
union a b = a ++ filter (λ c. not (is_held a c.name)) b
