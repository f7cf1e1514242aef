-- Which changes go in one pass through a list in which needs stand first.
use Rattle.std.specs.Prelude.{Bool, ◌||◌, List}
use Rattle.std.specs.List.{list_any}
use Rattle.pj_name.specs.declared.name.Name.{Name}
use Rattle.pj_name.specs.Name.{same_name}
use Rattle.pj_change.specs.declared.change.Record.{Record}

-- the change needs one of these
abbrev pub needs_any : Record → List Name → Bool
needs_any c names = list_any (λ n. list_any (λ m. same_name m n) names) c.change.needs

-- the change has the name, or needs one that is gone
abbrev pub goes : Record → Name → List Name → Bool
goes c name gone = same_name c.name name || needs_any c gone
