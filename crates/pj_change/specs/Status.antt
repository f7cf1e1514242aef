-- The status of a byte or a name in a set S (the word zombie is Pijul's; when each status applies is this project's own).
use Rattle.std.specs.Prelude.{Bool, not, ◌&&◌, ◌||◌, List, if◌then◌else◌}
use Rattle.std.specs.List.{list_any}
use Rattle.pj_change.specs.declared.point.Point.{Point}
use Rattle.pj_change.specs.declared.graph.Status.{Status}
use Rattle.pj_change.specs.declared.graph.Status.TheVariants.{Alive, Dead, Zombie}
use Rattle.pj_change.specs.declared.change.Record.{Record}
use Rattle.pj_change.specs.Covers.{covers}
use Rattle.pj_change.specs.Versions.{survives, deletion_survives, life_survives}
use Rattle.pj_change.specs.Contested.{is_hunk_contested}

-- a deleted version survives whose hunk is contested
abbrev pub is_contested : List Record → Point → Bool
is_contested S p = list_any (λ d. survives S d.name p && list_any (λ h. covers d h p && is_hunk_contested S d h) d.change.hunks) S

-- alive where all surviving versions are alive; dead where all are deleted and none is of a contested hunk; else a zombie
unfoldable pub status_of : List Record → Point → Status
status_of S p =
    if not (deletion_survives S p) then Alive
    else (if life_survives S p || is_contested S p then Zombie else Dead)
