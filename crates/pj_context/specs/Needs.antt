-- A change with the records of its needs.
use Rattle.std.specs.Prelude.{◌≡◌, List, map}
use Rattle.pj_change.specs.declared.change.Record.{Record}

-- these are the records of the needs of c, in their order: they have the names that c lists
abbrev pub AreNeeds : Record → List Record → Type 0
AreNeeds c needs = map (λ r. r.name) needs ≡ c.change.needs

-- what the references of a change can mean: the change itself, and its needs
pub record Reachable : Type 0 where
  pub itself : Record
  pub needs : List Record
