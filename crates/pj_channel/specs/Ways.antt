-- Ways from a change up to those that need it.
use Rattle.std.specs.Prelude.{◌≡◌, false, IsTrue, List, [], ◌∷◌}
use Rattle.pj_name.specs.declared.name.Name.{Name}
use Rattle.pj_change.specs.declared.change.Record.{Record}
use Rattle.pj_change.specs.Lawful.{is_held}
use Rattle.pj_change.specs.Unrecord.{IsHolder}

-- each of the names is that of a change which needs the one before it, and the first one this need
abbrev pub Climbs : List Record → Name → List Name → Type 0
Climbs list need [] = Unit {0}
Climbs list need (holder ∷ names) = IsHolder list need holder × Climbs list holder names

-- the names begin with this one, which is held, and climb; or there are none, and it is not held
abbrev pub IsWay : List Record → Name → List Name → Type 0
IsWay list name [] = is_held list name ≡ false
IsWay list name (first ∷ names) = (first ≡ name) × IsTrue (is_held list name) × Climbs list first names
