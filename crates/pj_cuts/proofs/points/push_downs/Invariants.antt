use Rattle.std.proofs.Common.{◌≡◌, ◌++◌, take}
use Rattle.std.specs.Prelude.{flat_map}
use Rattle.pj_change.specs.Positions.{resolve}
use Rattle.pj_change.specs.CutCounts.{point_at}
use Rattle.pj_cuts.proofs.points.push_downs.Given as goal

-- the first downs are there
abbrev pub invariant-loop-down : goal.invariant-loop-down
invariant-loop-down l = l.points.items ≡ l.initial.points.items ++ flat_map (λ down. point_at (resolve l.«record» down)) (take l.down-index l.downs)
