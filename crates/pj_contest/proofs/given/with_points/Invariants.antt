use Rattle.std.proofs.Common.{◌≡◌, ◌++◌, take}
use Rattle.std.specs.Prelude.{flat_map}
use Rattle.pj_change.specs.Positions.{resolve}
use Rattle.pj_contest.specs.Given.{points_at}
use Rattle.pj_contest.proofs.given.with_points.Given as goal

abbrev pub invariant-loop-at : goal.invariant-loop-at
invariant-loop-at l = l.points.items ≡ l.fn.points.items ++ flat_map (λ at. points_at (resolve l.record at)) (take l.at-index l.refs)
