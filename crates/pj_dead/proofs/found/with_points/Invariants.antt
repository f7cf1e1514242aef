use Rattle.std.proofs.Common.{take}
use Rattle.std.specs.Prelude.{Contains}
use Rattle.pj_dead.specs.Searches.{GoesOn}
use Rattle.pj_dead.proofs.found.with_points.Given as goal

abbrev pub invariant-loop-point : goal.invariant-loop-point
invariant-loop-point l = GoesOn (λ p. Contains (take l.point-index l.points) p × Unit {0}) l.fn.found l.found
