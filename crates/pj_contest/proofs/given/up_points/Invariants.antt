use Rattle.std.proofs.Common.{◌≡◌, take}
use Rattle.std.specs.Prelude.{flat_map}
use Rattle.pj_contest.specs.Given.{up_points_in}
use Rattle.pj_contest.proofs.given.up_points.Given as goal

abbrev pub invariant-loop-hunk : goal.invariant-loop-hunk
invariant-loop-hunk l = l.points.items ≡ flat_map (up_points_in l.record) (take l.hunk-index l.hunk-items)
