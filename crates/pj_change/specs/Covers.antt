-- Which positions the `delete` and `revive` hunks of a record's change cover.
use Rattle.std.specs.Prelude.{ℕ, Bool, true, false, ◌&&◌, List, [], nat_lt, nat_le}
use Rattle.std.specs.List.{list_any}
use Rattle.pj_name.specs.declared.name.Name.{Name}
use Rattle.pj_name.specs.Name.{same_name}
use Rattle.pj_change.specs.declared.point.Point.{Point}
use Rattle.pj_change.specs.declared.hunk.Hunk.{Hunk}
use Rattle.pj_change.specs.declared.hunk.Hunk.TheVariants.{Delete, Revive}
use Rattle.pj_change.specs.declared.change.Record.{Record}
use Rattle.pj_change.specs.Positions.{numbered}

-- the point is a position of this change from start up to and without end
abbrev pub is_within : Name → ℕ → ℕ → Point → Bool
is_within owner start end p = same_name owner p.change && nat_le start p.offset && nat_lt p.offset end

-- the hunk of d deletes or revives the point
abbrev pub covers : Record → Hunk → Point → Bool
covers d (Delete owner start end by) p = is_within (numbered d owner) start end p
covers d (Revive owner start end by) p = is_within (numbered d owner) start end p
covers d h p = false

-- a hunk that deletes
abbrev pub is_delete : Hunk → Bool
is_delete (Delete owner start end by) = true
is_delete h = false

-- a hunk that revives
abbrev pub is_revive : Hunk → Bool
is_revive (Revive owner start end by) = true
is_revive h = false

-- the numbers under `by`
abbrev pub by_of : Hunk → List ℕ
by_of (Delete owner start end by) = by
by_of (Revive owner start end by) = by
by_of h = []

-- the change of d deletes the point
abbrev pub deletes : Record → Point → Bool
deletes d p = list_any (λ h. is_delete h && covers d h p) d.change.hunks

-- it revives the point
abbrev pub revives : Record → Point → Bool
revives d p = list_any (λ h. is_revive h && covers d h p) d.change.hunks

-- it does one of the two
abbrev pub touches : Record → Point → Bool
touches d p = list_any (λ h. covers d h p) d.change.hunks
