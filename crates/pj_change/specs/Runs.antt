-- Runs of operations on a channel, as a fold over the list of changes that it holds.
use Rattle.std.specs.Prelude.{◌≡◌, List, [], ◌∷◌, ◌++◌, ◌⊎◌, Contains, flat_map}
use Rattle.std.specs.Arc.{arc_value}
use Rattle.pj_change.specs.declared.change.Record.{Record}
use Rattle.pj_change.specs.Lawful.{Follows, IsLawful}
use Rattle.pj_change.specs.Union.{union}
use Rattle.pj_change.specs.Uproot.{IsUprooted}
use Rattle.pj_change.specs.Unrecord.{MayLeave, without}
use Rattle.pj_change.specs.declared.operation.Operation.{Operation}
use Rattle.pj_change.specs.declared.operation.Operation.TheVariants.{Apply, Pull, Unrecord, Uproot}

-- where the cause stands it is the new list, and else the old one
abbrev pub Becomes : Type 0 → List Record → List Record → List Record → Type 0
Becomes cause old new after = (cause × (after ≡ new)) ⊎ ((cause → ⊥) × (after ≡ old))

-- what an operation leaves of a list; one that is refused leaves it as it was
abbrev pub Leaves : List Record → Operation (List Record) → List Record → Type 0
Leaves list (Apply change) after = Becomes (Follows list (arc_value change)) list (list ++ arc_value change ∷ []) after
Leaves list (Pull other) after = after ≡ union list other
Leaves list (Unrecord name) after = Becomes (MayLeave list name) list (without list name) after
Leaves list (Uproot name) after = IsUprooted list name after

-- what operations leave of a list, one after the other
abbrev pub IsRun : List Record → List (Operation (List Record)) → List Record → Type 0
IsRun list [] after = after ≡ list
IsRun list (operation ∷ operations) after = (next : List Record) × Leaves list operation next × IsRun next operations after

-- the changes that an operation brings
abbrev pub brought_by : Operation (List Record) → List Record
brought_by (Apply change) = arc_value change ∷ []
brought_by (Pull other) = other
brought_by (Unrecord name) = []
brought_by (Uproot name) = []

-- the changes that operations bring
abbrev pub brought : List (Operation (List Record)) → List Record
brought operations = flat_map brought_by operations

-- each list that is pulled is lawful, as every channel is
abbrev pub PullLawful : List (Operation (List Record)) → Type 0
PullLawful operations = (other : List Record) → Contains operations (Pull other) → IsLawful other
