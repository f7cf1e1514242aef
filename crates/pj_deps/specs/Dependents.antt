-- A table of needs: which changes are held, and which of them need which.
use Rattle.std.specs.Prelude.{◌≡◌, Bool, false, IsTrue, List, Contains, Option, Some, None, ◌↔◌}
use Rattle.std.specs.Ordering.{on, then_cmp}
use Rattle.std.specs.declared.cmp.Ordering.{Ordering}
use Rattle.pj_name.specs.declared.name.Name.{Name}
use Rattle.pj_name.specs.Name.{name_cmp, name_below}
use Rattle.pj_change.specs.declared.change.Record.{Record}
use Rattle.pj_change.specs.Lawful.{is_held}
use Rattle.pj_change.specs.Unrecord.{IsHolder}
use Rattle.pj_pmap.specs.Pairs.{IsRising}
use Rattle.pj_rows.specs.declared.values.Here.{Here}
use Rattle.pj_rows.specs.Keys.{has}
use Rattle.pj_deps.specs.declared.keys.HeldName.{HeldName}
use Rattle.pj_deps.specs.declared.keys.HeldBy.{HeldBy}

-- the held changes, and the pairs of a need and a held change that has it
pub record Dependents : Type 0 where
  pub held : List (HeldName × Here)
  pub holders : List (HeldBy × Here)

-- ---- what the table says

-- keys in the order of their names
abbrev pub held_cmp : HeldName → HeldName → Ordering
held_cmp = on (λ k. k.name) name_cmp

-- by the need, then by the change that has it
abbrev pub holder_cmp : HeldBy → HeldBy → Ordering
holder_cmp = then_cmp (on (λ k. k.need) name_cmp) (on (λ k. k.holder) name_cmp)

-- the key of a need and a change that has it
abbrev pub pair : Name → Name → HeldBy
pair need holder = record { need = need; holder = holder }

-- the change of this name is held
abbrev pub has_change : Dependents → Name → Bool
has_change d name = has held_cmp (record { name = name }) d.held

-- the held change has this need
abbrev pub has_pair : Dependents → Name → Name → Bool
has_pair d need holder = has holder_cmp (pair need holder) d.holders

-- the keys of both maps rise
pub record AreRising (held : List (HeldName × Here)) (holders : List (HeldBy × Here)) : Type 0 where
  pub held_rise : IsRising held_cmp held
  pub holders_rise : IsRising holder_cmp holders

-- ---- what a change brings

-- the change has this name, and this need
pub record Brings (c : Record) (need holder : Name) : Type 0 where
  pub named : c.name ≡ holder
  pub needs : Contains c.change.needs need

-- ---- what is asked for

-- a need of the change that is not held
abbrev pub IsLacking : Dependents → Record → Name → Type 0
IsLacking d c name = Contains c.change.needs name × (has_change d name ≡ false)

-- the name is above this one, if there is one
abbrev pub IsAfter : Option Name → Name → Type 0
IsAfter None name = Unit {0}
IsAfter (Some after) name = IsTrue (name_below after name)

-- a held change above this one that has the need
abbrev pub IsHolderAfter : Dependents → Name → Option Name → Name → Type 0
IsHolderAfter d need after holder = IsTrue (has_pair d need holder) × IsAfter after holder

-- ---- the table of the set S

-- it has the changes of S, and their needs
pub record AreDepsOf (S : List Record) (d : Dependents) : Type 0 where
  pub held : (name : Name) → has_change d name ≡ is_held S name
  pub holders : (need holder : Name) → IsTrue (has_pair d need holder) ↔ IsHolder S need holder
