-- Lawful lists of changes: a change is applied only after the changes that it needs, as in Pijul.
use Rattle.std.specs.Prelude.{◌≡◌, Bool, false, IsTrue, List, ◌∷◌, ◌++◌, Option}
use Rattle.std.specs.List.{list_any, list_all, find, filter_map}
use Rattle.pj_name.specs.declared.name.Name.{Name}
use Rattle.pj_name.specs.Name.{same_name}
use Rattle.pj_change.specs.declared.change.Record.{Record}
use Rattle.pj_change.specs.Context.{holds}
use Rattle.pj_change.specs.Sets.{HaveSameMembers}

-- a change of this name is there
abbrev pub is_held : List Record → Name → Bool
is_held list name = list_any (λ r. same_name r.name name) list

-- the record of this name
abbrev pub record_of : List Record → Name → Option Record
record_of list name = find (λ r. same_name r.name name) list

-- the records of the needs of c, in their order
abbrev pub needs_of : List Record → Record → List Record
needs_of list c = filter_map (record_of list) c.change.needs

-- c may follow these changes: it is none of them, its needs are there, and each of its hunks has its context
pub record Follows (list : List Record) (c : Record) : Type 0 where
  pub fresh : is_held list c.name ≡ false
  pub needs : IsTrue (list_all (is_held list) c.change.needs)
  pub context : IsTrue (list_all (holds c (needs_of list c)) c.change.hunks)

-- each change follows those that stand before it
abbrev pub IsLawful : List Record → Type 0
IsLawful list = (before : List Record) (c : Record) (after : List Record) → list ≡ before ++ c ∷ after → Follows before c

-- no change stands twice, and the needs of each stand before it
abbrev pub IsInOrder : List Record → Type 0
IsInOrder list =
    (before : List Record) (c : Record) (after : List Record) → list ≡ before ++ c ∷ after →
    (is_held before c.name ≡ false) × IsTrue (list_all (is_held before) c.change.needs)

-- some list of the set is lawful
pub record IsLawfulSet (S : List Record) : Type 0 where
  pub list : List Record
  pub same : HaveSameMembers list S
  pub lawful : IsLawful list
