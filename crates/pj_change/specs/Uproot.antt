-- A list of changes without one of them and all that reach it by needs.
use Rattle.std.specs.Prelude.{◌≡◌, List, [], ◌∷◌, Contains, ◌⊎◌}
use Rattle.pj_name.specs.declared.name.Name.{Name}
use Rattle.pj_change.specs.declared.change.Record.{Record}

-- needs lead from a change to the one of this name, inside the list
pub data Reaches (list : List Record) (name : Name) : Record → Type 0 where
  itself : {r : Record} → r.name ≡ name → Reaches list name r
  by_need : {r s : Record} → Contains list s → Contains r.change.needs s.name → Reaches list name s → Reaches list name r

-- rest is the list, in its order, without the changes of which Q holds
abbrev pub IsWithout : (Record → Type 0) → List Record → List Record → Type 0
IsWithout Q [] rest = rest ≡ []
IsWithout Q (r ∷ list) rest =
    (Q r × IsWithout Q list rest) ⊎ ((Q r → ⊥) × (left : List Record) × (rest ≡ r ∷ left) × IsWithout Q list left)

-- rest is the list without the change of this name and all that reach it
abbrev pub IsUprooted : List Record → Name → List Record → Type 0
IsUprooted list name rest = IsWithout (Reaches list name) list rest
