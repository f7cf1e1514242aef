-- A test of one text per name: each two records have different names or one text.
use Rattle.std.specs.Prelude.{Bool, not, ◌||◌, List}
use Rattle.std.specs.List.{list_all}
use Rattle.std.specs.Str.{bytes_eq}
use Rattle.pj_name.specs.Name.{same_name}
use Rattle.pj_change.specs.declared.change.Record.{Record}

-- the records have different names or one text
abbrev pub agree : Record → Record → Bool
agree r s = not (same_name r.name s.name) || bytes_eq r.text s.text

-- each record of the one list agrees with each of the other
abbrev pub all_agree : List Record → List Record → Bool
all_agree a b = list_all (λ r. list_all (agree r) b) a
