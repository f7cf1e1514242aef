use Rattle.std.proofs.Common.{◌≡◌, take}
use Rattle.std.specs.Prelude.{flat_map}
use Rattle.pj_change.specs.CutCounts as counted
use Rattle.pj_cuts.proofs.points.cut_points.Given as goal

-- the points of the first hunks are there
abbrev pub invariant-loop-hunk : goal.invariant-loop-hunk
invariant-loop-hunk l = l.points.items ≡ flat_map (counted.cut_points l.«record») (take l.hunk-index l.«record».change.hunks)
