-- The parts of a change, its text, and the changes that it lists.
use Rattle.std.specs.Prelude.{ℕ, Bool, ◌||◌, List}
use Rattle.std.specs.List.{list_any}
use Rattle.pj_name.specs.declared.name.Name.{Name}
use Rattle.pj_name.specs.Name.{same_name}
use Rattle.pj_change.specs.declared.change.Change.{Change}
use Rattle.pj_change.specs.declared.change.Record.{Record}
use Rattle.pj_change.specs.Text.{Parts, text_of}
pub use Rattle.pj_change.specs.Text.{parts}

-- what a change is made of
abbrev pub parts_of : Change → Parts
parts_of c = parts c.version c.message c.author c.time c.needs c.knows c.hunks

-- the text of a change
abbrev pub spelling : Change → List ℕ
spelling c = text_of (parts_of c)

-- the record's change lists the name, as a need or as one that it knows
abbrev pub knows : Record → Name → Bool
knows r n = list_any (λ m. same_name m n) r.change.needs || list_any (λ m. same_name m n) r.change.knows
