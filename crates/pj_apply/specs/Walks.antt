-- A walk through a list of changes by name.
use Rattle.std.specs.Prelude.{cond, List, [], ◌∷◌, Option, Some, None}
use Rattle.pj_name.specs.declared.name.Name.{Name}
use Rattle.pj_name.specs.Name.{same_name}
use Rattle.pj_change.specs.declared.change.Record.{Record}

-- the changes that stand after the one of this name
abbrev pub after_name : List Record → Name → List Record
after_name [] name = []
after_name (r ∷ list) name = cond (same_name r.name name) list (after_name list name)

-- the changes that a walk has not yet given: all of them before the first step, and then those after the one that it gave last
abbrev pub remaining : List Record → Option Name → List Record
remaining list None = list
remaining list (Some name) = after_name list name
