-- The versions of a byte or a name in a set S: its owner's, which is alive, and those of the changes that delete or revive it
-- (this project's form of Pijul's edges with introducers).
use Rattle.std.specs.Prelude.{Bool, not, ◌&&◌, ◌||◌, List}
use Rattle.std.specs.List.{list_any}
use Rattle.pj_name.specs.declared.name.Name.{Name}
use Rattle.pj_name.specs.Name.{same_name}
use Rattle.pj_change.specs.declared.point.Point.{Point}
use Rattle.pj_change.specs.declared.hunk.Hunk.{Hunk}
use Rattle.pj_change.specs.declared.change.Record.{Record}
use Rattle.pj_change.specs.Positions.{numbered}
use Rattle.pj_change.specs.Covers.{covers, by_of, deletes, revives, touches}

-- the change of this name has a version of the point
abbrev pub has_version : List Record → Name → Point → Bool
has_version S name p = same_name name p.change || list_any (λ d. same_name d.name name && touches d p) S

-- the hunk of d covers the point, and names the change under `by`
abbrev pub overrules : Record → Name → Point → Hunk → Bool
overrules d name p h = covers d h p && list_any (λ k. same_name (numbered d k) name) (by_of h)

-- no change of S overrules the version of this change
abbrev pub survives : List Record → Name → Point → Bool
survives S name p = not (list_any (λ d. list_any (overrules d name p) d.change.hunks) S)

-- a deleted version survives
abbrev pub deletion_survives : List Record → Point → Bool
deletion_survives S p = list_any (λ d. deletes d p && survives S d.name p) S

-- a version that is alive survives: the owner's, or that of a change which revives the point
abbrev pub life_survives : List Record → Point → Bool
life_survives S p = survives S p.change p || list_any (λ d. revives d p && survives S d.name p) S
