use Rattle.std.proofs.Common.{◌≡◌, ◌++◌, take}
use Rattle.std.specs.Prelude.{flat_map}
use Rattle.pj_change.specs.Positions.{resolve}
use Rattle.pj_change.specs.CutCounts.{point_after}
use Rattle.pj_cuts.proofs.points.push_ups.Given as goal

-- the points after the first ups are there
abbrev pub invariant-loop-up : goal.invariant-loop-up
invariant-loop-up l = l.points.items ≡ l.initial.points.items ++ flat_map (λ up. point_after (resolve l.«record» up)) (take l.up-index l.ups)
