-- Which changes of a set S contest a deletion by r, where what is deleted is known.
use Rattle.std.specs.Prelude.{◌≡◌, ℕ, Bool, true, ◌&&◌, List, [], Contains}
use Rattle.std.specs.List.{list_any}
use Rattle.pj_name.specs.declared.name.Name.{Name}
use Rattle.pj_name.specs.Name.{same_name}
use Rattle.pj_change.specs.declared.point.Place.{Place}
use Rattle.pj_change.specs.declared.hunk.Hunk.TheVariants.{Delete}
use Rattle.pj_change.specs.declared.change.Record.{Record}
use Rattle.pj_change.specs.Lawful.{is_held}
use Rattle.pj_change.specs.Contested.{are_strangers, inserts_after, builds_on}
use Rattle.pj_change.specs.ContestCounts.{is_contested_by}

-- the name is of a change of S that is a stranger to r
abbrev pub is_stranger_of : List Record → Record → Name → Bool
is_stranger_of S r n = list_any (λ i. same_name i.name n && are_strangers i r) S

-- the names are of changes of S alone
abbrev pub NameOnly : List Record → List Name → Type 0
NameOnly S names = (n : Name) → Contains names n → is_held S n ≡ true

-- the strangers to r that have one of the names are the changes of S that pass
pub record AreRivals (S : List Record) (r : Record) (names : List Name) (p : Record → Bool) : Type 0 where
  pub there : (i : Record) → Contains S i → are_strangers i r ≡ true → Contains names i.name → p i ≡ true
  pub back : (i : Record) → Contains S i → p i ≡ true → (are_strangers i r ≡ true) × Contains names i.name

-- a change of S that passes has this name
pub record IsNameOfOne (S : List Record) (p : Record → Bool) (n : Name) : Type 0 where
  pub it : Record
  pub member : Contains S it
  pub name : it.name ≡ n
  pub passes : p it ≡ true

-- i contests the deletion of a range of text by r
abbrev pub is_text_rival : Record → Name → ℕ → ℕ → Record → Bool
is_text_rival r owner start end i = are_strangers i r && list_any (inserts_after i owner start end) i.change.hunks

-- i contests the deletion of a name of this child by r
abbrev pub is_name_rival : Record → Place → Record → Bool
is_name_rival r child i = are_strangers i r && list_any (builds_on i child) i.change.hunks

-- i contests the deletion of this range by r, of the change that the number means
abbrev pub is_rival_of : List Record → Record → ℕ → ℕ → ℕ → Record → Bool
is_rival_of S r owner start end i = is_contested_by S r (Delete owner start end []) i
