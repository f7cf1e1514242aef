-- How many cuts the changes of a set S make before a point.
use Rattle.std.specs.Prelude.{ℕ, ◌+◌, List, [], ◌∷◌, ◌++◌, count_by, sum_by, flat_map}
use Rattle.pj_change.specs.declared.point.Point.{Point}
use Rattle.pj_change.specs.declared.point.Place.{Place}
use Rattle.pj_change.specs.declared.point.Place.TheVariants as placed
use Rattle.pj_change.specs.declared.hunk.Hunk.{Hunk}
use Rattle.pj_change.specs.declared.hunk.Hunk.TheVariants.{Insert, Order, Delete, Revive}
use Rattle.pj_change.specs.declared.change.Record.{Record}
use Rattle.pj_change.specs.Positions.{resolve, numbered, same_point}

-- the point just after a place; the root is before none
abbrev pub point_after : Place → List Point
point_after placed.Root = []
point_after (placed.At q) = record { change = q.change; offset = q.offset + 1 } ∷ []

-- the point at a place; none is at the root
abbrev pub point_at : Place → List Point
point_at placed.Root = []
point_at (placed.At q) = q ∷ []

-- both ends of a range of a numbered need
abbrev pub range_ends : Record → ℕ → ℕ → ℕ → List Point
range_ends r owner start end = record { change = numbered r owner; offset = start } ∷ record { change = numbered r owner; offset = end } ∷ []

-- the points before which a hunk of r cuts, one for each up, down, source, target and end of a range
abbrev pub cut_points : Record → Hunk → List Point
cut_points r (Insert file ups downs bytes) = flat_map (λ up. point_after (resolve r up)) ups ++ flat_map (λ down. point_at (resolve r down)) downs
cut_points r (Order file source target) = point_after (resolve r source) ++ point_at (resolve r target)
cut_points r (Delete owner start end by) = range_ends r owner start end
cut_points r (Revive owner start end by) = range_ends r owner start end
cut_points r h = []

-- how many cuts the hunks of r make before the point
abbrev pub cuts_by : Record → Point → ℕ
cuts_by r p = count_by (λ q. same_point q p) (flat_map (cut_points r) r.change.hunks)

-- how many the changes of S make
abbrev pub cuts_before : List Record → Point → ℕ
cuts_before S p = sum_by (λ r. cuts_by r p) S
