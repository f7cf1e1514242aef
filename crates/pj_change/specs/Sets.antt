-- Sets of changes. A set is given as a list of records, and what is defined over it asks for membership alone.
use Rattle.std.specs.Prelude.{◌≡◌, ◌≢◌, List, Contains, AllPairs}
use Rattle.pj_change.specs.declared.change.Record.{Record}

-- the lists have the same members
pub record HaveSameMembers (S T : List Record) : Type 0 where
  pub there : (r : Record) → Contains S r → Contains T r
  pub back : (r : Record) → Contains T r → Contains S r

-- records with equal names have equal texts
abbrev pub HaveOneText : List Record → Type 0
HaveOneText S = (r s : Record) → Contains S r → Contains S s → r.name ≡ s.name → r.text ≡ s.text

-- no two records of the list have one name
abbrev pub HaveDistinctNames : List Record → Type 0
HaveDistinctNames S = AllPairs (λ r s. r.name ≢ s.name) S
